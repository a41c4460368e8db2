-- The table after the end of a root.
use Rattle.std.proofs.Common.{◌≡◌, ◌==◌, ℕ, ◌≤◌, not, List, [], ◌∷◌, ◌++◌, length, filter, ap, sym, ◌∙◌, append-nil}
use Rattle.std.proofs.lemmas.List.Elements.{filter_map-append, All-weaker, All-push, All-filter}
use Rattle.wq_view.specs.View.{IsViewOf}
use Rattle.wq_live.specs.declared.event.RootEvent.{RootEvent}
use Rattle.wq_live.specs.declared.event.RootEvent.TheVariants.{Ended}
use Rattle.wq_live.specs.Event.{Root, start_in, number_in, started, passes_over}
use Rattle.wq_live.specs.Table.{RootView, TableData, IsTableOf, has_number, without}
use Rattle.wq_live.proofs.Roots.{without_number}
use Rattle.wq_live.proofs.Events.{shown_after_end, passes_after}

module _ (events : List RootEvent) (table : TableData) (is : IsTableOf events table) (n : ℕ) where
  same_started : started (events ++ Ended n ∷ []) ≡ started events
  same_started = filter_map-append start_in events (Ended n ∷ []) ∙ append-nil (started events)

  same_passes : (m : ℕ) → passes_over m (events ++ Ended n ∷ []) ≡ passes_over m events
  same_passes m = passes_after m events (Ended n) ∙ append-nil (passes_over m events)

  -- the end of a root that was given this number
  pub after_end : n ≤ table.given → IsTableOf (events ++ Ended n ∷ []) (without n table)
  after_end given = record {
    lawful = record {
      numbers = rw same_started is.lawful.numbers;
      known = rw same_started (All-push (λ e. number_in e ≤ length (started events)) events (Ended n) is.lawful.known (rw (sym is.given) given));
      differ = λ m. rw (same_passes m) (is.lawful.differ m);
    };
    given = is.given ∙ ap length (sym same_started);
    roots = without_number n table.roots ∙ ap (filter (λ (root : Root). not (root.number == n))) is.roots ∙ sym (shown_after_end events n);
    views = All-filter (λ root. not (has_number n root)) (λ (root : RootView). IsViewOf (passes_over root.number (events ++ Ended n ∷ [])) root.view) table.roots
        (All-weaker (λ (root : RootView). IsViewOf (passes_over root.number events) root.view) (λ (root : RootView). IsViewOf (passes_over root.number (events ++ Ended n ∷ [])) root.view)
        (λ root v. rw (same_passes root.number) v) table.roots is.views);
  }
