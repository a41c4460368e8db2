-- The table of all roots: each root that is shown, with the view of the passes over it. No public
-- document defines it.
use Rattle.std.specs.Prelude.{◌≡◌, ◌≢◌, ◌==◌, ◌⊎◌, ◌+◌, ℕ, Bool, true, false, if◌then◌else◌, not, All, List, [], ◌∷◌, ◌++◌, length, map, filter, find, bytes_eq, Option, option_map, refl}
use Rattle.std.specs.Coded.{Coded, code_by, coded×, coded_ℕ, coded_list}
use Rattle.wq_base.specs.Limit.{max_number, max_roots}
use Rattle.wq_record.specs.Limit.{max_tick}
use Rattle.wq_view.specs.Listing.{PassData}
use Rattle.wq_view.specs.History.{last_stats}
use Rattle.wq_view.specs.View.{ViewData, view_code, IsViewOf}
use Rattle.wq_live.specs.declared.event.RootEvent.{RootEvent}
use Rattle.wq_live.specs.Event.{Root, started, shown, is_shown, passes_over, first_history, IsLawfulList}

-- a root that is shown, with its view
pub record RootView : Type 0 where
  pub number : ℕ
  pub text : List ℕ
  pub view : ViewData

-- a root with its view as the tuple of its parts
abbrev pub root_code : Coded RootView
root_code =
    code_by (ℕ × (List ℕ × ViewData)) (coded× coded_ℕ (coded× (coded_list coded_ℕ) view_code))
    (λ root. (root.number, (root.text, root.view)))
    (λ (number, (text, view)). record { number = number; text = text; view = view }) (λ _. refl)

-- the root without its view
abbrev pub root_of : RootView → Root
root_of root = record { number = root.number; text = root.text }

-- the roots that are shown, in the order of their starts, and the number of roots ever started
pub record TableData : Type 0 where
  pub roots : List RootView
  pub given : ℕ

-- a table as the pair of its parts
abbrev pub table_code : Coded TableData
table_code =
    code_by (List RootView × ℕ) (coded× (coded_list root_code) coded_ℕ)
    (λ table. (table.roots, table.given))
    (λ (roots, given). record { roots = roots; given = given }) (λ _. refl)

-- the table of a list of events: it has the roots that the list shows, and the view of each is that
-- of the passes over it
pub record IsTableOf (events : List RootEvent) (table : TableData) : Type 0 where
  pub lawful : IsLawfulList events
  pub given : table.given ≡ length (started events)
  pub roots : map root_of table.roots ≡ shown events
  pub views : All (λ root. IsViewOf (passes_over root.number events) root.view) table.roots

-- whether the root has this number
abbrev pub has_number : ℕ → RootView → Bool
has_number number root = root.number == number

-- whether the root has this text
abbrev pub has_text : List ℕ → RootView → Bool
has_text text root = bytes_eq root.text text

-- the root of this text in a table, if the table has it
abbrev pub root_by_text : List ℕ → TableData → Option RootView
root_by_text text table = find (has_text text) table.roots

-- the number of the root of this text in a table
abbrev pub number_by_text : List ℕ → TableData → Option ℕ
number_by_text text table = option_map (λ root. root.number) (root_by_text text table)

-- no more root can be started, by the table
abbrev pub IsFullTable : TableData → Type 0
IsFullTable table = (length table.roots ≡ max_roots) ⊎ (table.given ≡ max_number)

-- the root; if it has this number, with this view
abbrev pub with_view : ℕ → ViewData → RootView → RootView
with_view number view root = if root.number == number then record root { view = view } else root

-- the pass adds nothing, because its root is not shown or the last pass over it saw the same
abbrev pub IsNoNews : List RootEvent → ℕ → PassData → Type 0
IsNoNews events number pass =
    (is_shown events number ≡ false) ⊎ (last_stats (passes_over number events) ≡ pass.stats)

-- the root is shown, and the last pass over it saw something else
abbrev pub IsNews : List RootEvent → ℕ → PassData → Type 0
IsNews events number pass =
    (is_shown events number ≡ true) × (last_stats (passes_over number events) ≢ pass.stats)

-- the pass is news, and its root has no tick left for it
abbrev pub WantsForTicks : List RootEvent → ℕ → PassData → Type 0
WantsForTicks events number pass =
    IsNews events number pass × (length (passes_over number events) ≡ max_tick)

-- the table without the root of this number
abbrev pub without : ℕ → TableData → TableData
without number table = record {
  roots = filter (λ root. not (has_number number root)) table.roots;
  given = table.given;
}

-- the table with one more root, under the next number, which starts with this pass
abbrev pub IsStarted : TableData → List ℕ → PassData → TableData → Type 0
IsStarted before text pass after =
    (view : ViewData) × IsViewOf (first_history pass) view
    × (after ≡ record {
      roots = before.roots ++ record { number = before.given + 1; text = text; view = view } ∷ [];
      given = before.given + 1;
    })
