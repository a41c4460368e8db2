-- The facts about a list that its table has: the number of roots, and the root of a text.
use Rattle.std.proofs.Common.{◌≡◌, ◌⊎◌, ◌↔◌, ◌==◌, ℕ, Bool, true, false, IsTrue, if◌then◌else◌, List, [], ◌∷◌, length, Result, Ok, Err, Option, Some, None, option_map, is_some, IfSome, refl, ap, sym, subst, ◌∙◌}
use Rattle.std.specs.FinMap.{empty, len}
use Rattle.std.specs.List.{find}
use Rattle.std.proofs.lemmas.List.{length-map}
use Rattle.std.proofs.lemmas.List.Elements.{recursion_from_All}
use Rattle.wq_base.specs.Limit.{max_number, max_roots}
use Rattle.wq_view.specs.Listing.{PassData}
use Rattle.wq_live.specs.declared.event.RootEvent.{RootEvent}
use Rattle.wq_live.specs.declared.table.StartFault.{StartFault}
use Rattle.wq_live.specs.declared.table.StartFault.TheVariants.{TooManyRoots, NoMemory}
use Rattle.wq_live.specs.Event.{shown, started, is_shown, passes_over, shown_root, first_history}
use Rattle.wq_live.specs.Table.{RootView, TableData, IsTableOf, root_of, has_number, has_text}
use Rattle.wq_live.proofs.Roots.{root_of_text, found_passes}
use Rattle.wq_view.specs.View.{ViewData, IsViewOf}
use Rattle.wq_live.proofs.FirstView.{is_empty, not_empty}
use Rattle.wq_live.proofs.Passes.{not_shown, is_there, found_view}

module _ (events : List RootEvent) (table : TableData) (is : IsTableOf events table) where
  -- the root of a text
  pub named : (text : List ℕ) → shown_root text events ≡ option_map root_of (find (has_text text) table.roots)
  named text = rw (sym is.roots) (root_of_text text table.roots)

  none_named : (o : Option RootView) → option_map root_of o ≡ None → o ≡ None
  none_named None e = refl
  none_named (Some r) e = absurd cc

  pub not_there : (text : List ℕ) → shown_root text events ≡ None → find (has_text text) table.roots ≡ None
  not_there text e = none_named (find (has_text text) table.roots) (sym (named text) ∙ e)

  number_is : (o : Option RootView) → option_map (λ (r : RootView). r.number) o ≡ option_map (λ root. root.number) (option_map root_of o)
  number_is None = refl
  number_is (Some r) = refl

  pub number_named : (text : List ℕ) → option_map (λ (r : RootView). r.number) (find (has_text text) table.roots) ≡ option_map (λ root. root.number) (shown_root text events)
  number_named text = number_is (find (has_text text) table.roots) ∙ ap (option_map (λ root. root.number)) (sym (named text))

  -- a table is full if the list is
  pub full : {Q : Type 0} → (Q ↔ ((length table.roots ≡ max_roots) ⊎ (table.given ≡ max_number))) → (Q ↔ ((length (shown events) ≡ max_roots) ⊎ (length (started events) ≡ max_number)))
  full iff = rw (sym is.given, sym is.roots, length-map table.roots root_of) iff

-- a number finds the view of the passes over its root in the table
pub shows : {A : Type 0} (f : A → ViewData) (events : List RootEvent) (table : TableData) → IsTableOf events table → (number : ℕ) (answer : Option A)
    → option_map f answer ≡ option_map (λ (r : RootView). r.view) (find (has_number number) table.roots)
    → (is_some answer ≡ is_shown events number) × IfSome answer (λ view. IsViewOf (passes_over number events) (f view))
shows {A = A} f events table is number answer e = at answer (find (has_number number) table.roots) refl e
  where
    at : (answer : Option A) (found : Option RootView) → find (has_number number) table.roots ≡ found → option_map f answer ≡ option_map (λ (r : RootView). r.view) found
        → (is_some answer ≡ is_shown events number) × IfSome answer (λ view. IsViewOf (passes_over number events) (f view))
    at None None here e = (sym (not_shown events table is number here), tt)
    at None (Some r) here e = absurd cc
    at (Some v) None here e = absurd cc
    at (Some v) (Some r) here e = (sym (is_there events table is number r here), subst (IsViewOf (passes_over number events)) (cc e) (found_view events table is number r here))

-- a text finds the view of the passes over its root in the table
pub named_shows : {A : Type 0} (f : A → ℕ) (g : A → ViewData) (events : List RootEvent) (table : TableData) → IsTableOf events table → (text : List ℕ) (answer : Option A)
    → option_map f answer ≡ option_map (λ (r : RootView). r.number) (find (has_text text) table.roots)
    → option_map g answer ≡ option_map (λ (r : RootView). r.view) (find (has_text text) table.roots)
    → IfSome answer (λ it. IsViewOf (passes_over (f it) events) (g it))
named_shows {A = A} f g events table is text answer d e = at answer (find (has_text text) table.roots) refl d e
  where
    at : (answer : Option A) (found : Option RootView) → find (has_text text) table.roots ≡ found → option_map f answer ≡ option_map (λ (r : RootView). r.number) found
        → option_map g answer ≡ option_map (λ (r : RootView). r.view) found → IfSome answer (λ it. IsViewOf (passes_over (f it) events) (g it))
    at None found here d e = tt
    at (Some it) None here d e = absurd cc
    at (Some it) (Some r) here d e =
        let number : r.number ≡ f it = cc d in
        let view : r.view ≡ g it = cc e in
        subst (λ n. IsViewOf (passes_over n events) (g it)) number (subst (IsViewOf (passes_over r.number events)) view (found_passes (has_text text) (λ (root : RootView). IsViewOf (passes_over root.number events) root.view) table.roots r here
        (recursion_from_All (λ (root : RootView). IsViewOf (passes_over root.number events) root.view) table.roots is.views)).1)

-- if a start failed because memory ran out, the table was not full
pub no_memory : {A B P : Type 0} (r : Result A StartFault) (s : Result B StartFault) (b : B) (y : StartFault) → r ≡ Err y → y ≡ NoMemory → s ≡ Ok b → ((s ≡ Err TooManyRoots) ↔ P) → ((r ≡ Err TooManyRoots) ↔ P)
no_memory r s b y e f ok iff = ((λ h. absurd (cc (h, e, f))), (λ p. absurd (cc (iff.1 p, ok))))

-- if a start succeeded, the table was not full
pub well : {A B P : Type 0} (a : A) (s : Result B StartFault) (b : B) → s ≡ Ok b → ((s ≡ Err TooManyRoots) ↔ P) → ((◌≡◌ {A = Result A StartFault} (Ok a) (Err TooManyRoots)) ↔ P)
well a s b ok iff = ((λ h. absurd (cc h)), (λ p. absurd (cc (iff.1 p, ok))))
