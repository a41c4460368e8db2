-- The table after the start of a root with its first pass.
use Rattle.std.proofs.Common.{◌≡◌, ◌≢◌, ◌==◌, Bool, true, false, if◌then◌else◌, ℕ, ◌+◌, List, [], ◌∷◌, ◌++◌, map, refl, ap, subst, ◌∙◌, arith, append-nil, append_assoc}
use Rattle.std.proofs.lemmas.List.{map-append}
use Rattle.std.specs.FinMap.{empty, len}
use Rattle.wq_view.specs.Listing.{PassData}
use Rattle.wq_view.specs.View.{ViewData, IsViewOf}
use Rattle.wq_live.specs.declared.event.RootEvent.{RootEvent}
use Rattle.wq_live.specs.declared.event.RootEvent.TheVariants.{Started, Passed}
use Rattle.wq_live.specs.Event.{passes_over, first_history, start_events}
use Rattle.wq_live.specs.Table.{RootView, TableData, IsTableOf, with_view}
use Rattle.wq_live.proofs.Roots.{no_such_root, number_itself}
use Rattle.wq_live.proofs.Events.{unknown_passes, passes_after}
use Rattle.wq_live.proofs.Starts.{all_known, roots_known, after_start_alone, no_view}
use Rattle.wq_live.proofs.Passes.{after_pass}
use Rattle.wq_live.proofs.FirstView.{not_empty}

module _ (events : List RootEvent) (table : TableData) (is : IsTableOf events table) (text : List ℕ) (pass : PassData) (view : ViewData) where
  abbrev n : ℕ
  n = table.given + 1

  abbrev root_with : ViewData → RootView
  root_with v = record { number = n; text = text; view = v }

  abbrev table_with : ViewData → TableData
  table_with v = record { roots = table.roots ++ root_with v ∷ []; given = n }

  no_passes : passes_over n (events ++ Started n text ∷ []) ≡ []
  no_passes = passes_after n events (Started n text) ∙ (append-nil (passes_over n events) ∙ unknown_passes n table.given events (omega arith) (all_known events table is))

  replaced : (blank : ViewData) → map (with_view n view) (table.roots ++ root_with blank ∷ []) ≡ table.roots ++ root_with view ∷ []
  replaced blank =
      map-append (with_view n view) table.roots (root_with blank ∷ [])
      ∙ (ap (λ l. l ++ with_view n view (root_with blank) ∷ []) (no_such_root n table.given view table.roots (omega arith) (roots_known events table is))
      ∙ ap (λ r. table.roots ++ r ∷ []) (rw (number_itself n) refl))

  with_pass : empty ≢ pass.stats → IsViewOf (pass ∷ []) view → IsTableOf (events ++ Started n text ∷ Passed n pass ∷ []) (table_with view)
  with_pass new of =
      let started = after_start_alone events table is text no_view.0 no_view.1 in
      let both = after_pass (events ++ Started n text ∷ []) (table_with no_view.0) started n pass view (omega arith)
      (rw no_passes new) (rw no_passes of) in
      subst (λ l. IsTableOf l (table_with view)) (append_assoc events (Started n text ∷ []) (Passed n pass ∷ []))
      (subst (λ l. IsTableOf ((events ++ Started n text ∷ []) ++ Passed n pass ∷ []) (record { roots = l; given = n })) (replaced no_view.0) both)

  pub after_start : IsViewOf (first_history pass) view → IsTableOf (events ++ start_events n text pass) (table_with view)
  after_start of = at (len pass.stats == 0) refl of
    where
      at : (b : Bool) → (len pass.stats == 0) ≡ b → IsViewOf (first_history pass) view → IsTableOf (events ++ start_events n text pass) (table_with view)
      at true e of = rw e (after_start_alone events table is text view (subst (λ b. IsViewOf (if b then [] else pass ∷ []) view) e of))
      at false e of = rw e (with_pass (not_empty pass.stats e) (subst (λ b. IsViewOf (if b then [] else pass ∷ []) view) e of))
