-- The table after the start of a root.
use Rattle.std.proofs.Common.{◌≡◌, ℕ, ◌+◌, ◌≤◌, All, List, [], ◌∷◌, ◌++◌, map, length, refl, ap, sym, ◌∙◌, arith, append-nil, length-append}
use Rattle.std.specs.List.{AllByRecursion, range_with_len}
use Rattle.std.proofs.lemmas.List.{map-append}
use Rattle.std.proofs.lemmas.List.FromFn.{map-range_with_len_more}
use Rattle.std.proofs.lemmas.List.Elements.{filter_map-append, All-weaker, All-push, All-filter, recursion_from_All, All-from_recursion}
use Rattle.wq_view.specs.View.{ViewData, IsViewOf}
use Rattle.wq_live.specs.declared.event.RootEvent.{RootEvent}
use Rattle.wq_live.specs.declared.event.RootEvent.TheVariants.{Started}
use Rattle.wq_live.specs.Event.{Root, start_in, number_in, started, passes_over, IsLawfulList}
use Rattle.wq_live.specs.Table.{RootView, TableData, IsTableOf, root_of}
use Rattle.wq_live.proofs.Events.{unknown_passes, known_starts, shown_after_start, passes_after}

-- the view of no passes
pub no_view : (view : ViewData) × IsViewOf [] view
no_view = (record { tick = 0; records = [] }, record { tick = refl; ordered = refl; files = λ name. refl })

map_self : (xs : List ℕ) → map (λ x. x) xs ≡ xs
map_self [] = refl
map_self (x ∷ xs) = ap (λ l. x ∷ l) (map_self xs)

-- the numbers continue with the next one
next_number : (k n : ℕ) → n ≡ 1 + k → range_with_len 1 k ++ n ∷ [] ≡ range_with_len 1 (k + 1)
next_number k n e =
    sym (ap (λ l. l ++ n ∷ []) (map_self (range_with_len 1 k))) ∙ (sym (map-range_with_len_more (λ x. x) 1 k n (sym e)) ∙ map_self (range_with_len 1 (k + 1)))

module _ (events : List RootEvent) (table : TableData) (is : IsTableOf events table) where
  -- the numbers in the events are those that were given
  pub all_known : AllByRecursion (λ e. number_in e ≤ table.given) events
  all_known = recursion_from_All (λ e. number_in e ≤ table.given) events (rw is.given is.lawful.known)

  -- the numbers of the roots were given
  pub roots_known : AllByRecursion (λ (root : RootView). root.number ≤ table.given) table.roots
  roots_known =
      let at : All (λ (root : Root). root.number ≤ table.given) (map root_of table.roots) =
      rw is.roots (All-filter _ (λ (root : Root). root.number ≤ table.given) (started events) (All-from_recursion (λ (root : Root). root.number ≤ table.given) (started events) (known_starts table.given events all_known))) in
      below table.roots (recursion_from_All (λ (root : Root). root.number ≤ table.given) (map root_of table.roots) at)
    where
      below : (roots : List RootView) → AllByRecursion (λ (root : Root). root.number ≤ table.given) (map root_of roots) → AllByRecursion (λ (root : RootView). root.number ≤ table.given) roots
      below [] all = all
      below (r ∷ rs) all = (all.0, below rs all.1)

  module _ (text : List ℕ) where
    abbrev n : ℕ
    n = table.given + 1

    abbrev start : RootEvent
    start = Started n text

    one_more : started (events ++ start ∷ []) ≡ started events ++ record { number = n; text = text } ∷ []
    one_more = filter_map-append start_in events (start ∷ [])

    count : length (started (events ++ start ∷ [])) ≡ n
    count = ap length one_more ∙ length-append (started events) (record { number = n; text = text } ∷ []) ∙ ap (λ k. k + 1) (sym is.given)

    same_passes : (m : ℕ) → passes_over m (events ++ start ∷ []) ≡ passes_over m events
    same_passes m = passes_after m events start ∙ append-nil (passes_over m events)

    lawful : IsLawfulList (events ++ start ∷ [])
    lawful = record {
      numbers = ap (map (λ (root : Root). root.number)) one_more ∙ map-append (λ (root : Root). root.number) (started events) (record { number = n; text = text } ∷ [])
          ∙ ap (λ l. l ++ n ∷ []) is.lawful.numbers ∙ next_number (length (started events)) n (omega (arith, is.given)) ∙ ap (range_with_len 1) (ap (λ k. k + 1) (sym is.given) ∙ sym count);
      known = rw count (All-push (λ e. number_in e ≤ n) events start (All-weaker (λ e. number_in e ≤ table.given) (λ e. number_in e ≤ n) (λ e le. omega (arith, le)) events (rw is.given is.lawful.known)) (omega arith));
      differ = λ m. rw (same_passes m) (is.lawful.differ m);
    }

    -- a root before its first pass
    pub after_start_alone : (view : ViewData) → IsViewOf [] view
        → IsTableOf (events ++ start ∷ []) (record { roots = table.roots ++ record { number = n; text = text; view = view } ∷ []; given = n })
    after_start_alone view of = record {
      lawful = lawful;
      given = sym count;
      roots = map-append root_of table.roots (record { number = n; text = text; view = view } ∷ []) ∙ ap (λ l. l ++ record { number = n; text = text } ∷ []) is.roots
          ∙ sym (shown_after_start events n table.given text (omega arith) all_known);
      views = All-push (λ (root : RootView). IsViewOf (passes_over root.number (events ++ start ∷ [])) root.view) table.roots (record { number = n; text = text; view = view })
          (All-weaker (λ (root : RootView). IsViewOf (passes_over root.number events) root.view) (λ (root : RootView). IsViewOf (passes_over root.number (events ++ start ∷ [])) root.view)
          (λ root v. rw (same_passes root.number) v) table.roots is.views)
          (rw (same_passes n, unknown_passes n table.given events (omega arith) all_known) of);
    }
