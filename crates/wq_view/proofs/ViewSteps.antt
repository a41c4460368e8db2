-- One more pass, and the view of the history with it.
use Rattle.std.proofs.Common.{◌≡◌, ℕ, suc, ◌+◌, true, List, [], ◌∷◌, ◌++◌, map, length, IsTrue, ◌↔◌, sym, refl, ap, subst, ◌∙◌, arith, length-append}
use Rattle.std.proofs.Math.Dec.{T}
use Rattle.std.specs.FinMap.{find, entries, get, get-entries, is_sorted, same_map}
use Rattle.std.specs.FinMap.Entries.{same_entries}
use Rattle.wq_record.specs.Seen.{SeenData, entry_of}
use Rattle.wq_record.specs.Name.{name_cmp}
use Rattle.wq_view.specs.Listing.{PassData}
use Rattle.wq_record.specs.RecordData.{RecordData, by_name, record_named}
use Rattle.wq_view.specs.History.{History, record_of, last_stats}
use Rattle.wq_view.specs.Merge.{shows, records_after}
use Rattle.wq_view.specs.View.{ViewData, IsViewOf, HasOneView}
use Rattle.wq_view.proofs.NameOrder.{names_total, names_exact}
use Rattle.wq_view.proofs.Absorbed.{after_pass, absorbed_answers, absorbed_ordered}
use Rattle.wq_view.proofs.Histories.{record_of_more, existing_of, last_answers, existing_stat}
use Rattle.wq_view.proofs.Showing.{existing, existing_shown, shown_existing, existing_sorted, existing_found}

-- rows that are the entries of a pass
module _ (history : History) (view : ViewData) (pass : PassData) (rows : List SeenData) (is_view : IsViewOf history view) (are_entries : entries pass.stats ≡ map entry_of rows) where
  found_is : (q : List ℕ) → find name_cmp q (map entry_of rows) ≡ get pass.stats q
  found_is q = ap (find name_cmp q) (sym are_entries) ∙ sym (get-entries pass.stats q)

  -- the view after the pass is that of the history with the pass
  pub view_of_more : is_sorted name_cmp (map entry_of rows) ≡ true → IsViewOf (history ++ pass ∷ []) (record { tick = view.tick + 1; records = records_after (view.tick + 1) pass.second view.records rows })
  view_of_more sorted = record {
    tick = omega (arith, is_view.tick, length-append history (pass ∷ []));
    ordered = absorbed_ordered (view.tick + 1) pass.second view.records rows is_view.ordered sorted;
    files = λ q.
        let ticks : view.tick + 1 ≡ suc (length history) = omega (arith, is_view.tick) in
        absorbed_answers (view.tick + 1) pass.second view.records rows is_view.ordered sorted q
        ∙ ap (λ r. after_pass q r (find name_cmp q (map entry_of rows)) (view.tick + 1) pass.second) (is_view.files q)
        ∙ ap (λ o. after_pass q (record_of history q) o (view.tick + 1) pass.second) (found_is q)
        ∙ ap (λ n. after_pass q (record_of history q) (get pass.stats q) n pass.second) ticks
        ∙ sym (record_of_more history pass q);
  }

  -- a lookup among the existing files finds the stat that the last pass saw
  existing_is : (q : List ℕ) → find name_cmp q (existing view.records) ≡ get (last_stats history) q
  existing_is q = existing_found view.records is_view.ordered q ∙ ap existing_stat (is_view.files q) ∙ existing_of history q ∙ sym (last_answers history q)

  -- the view shows the pass exactly if the pass has the last map
  pub shows_last : is_sorted name_cmp (map entry_of rows) ≡ true → IsTrue (shows view.records rows) ↔ (last_stats history ≡ pass.stats)
  shows_last sorted = (there, back)
    where
      there : IsTrue (shows view.records rows) → last_stats history ≡ pass.stats
      there e = same_map names_total names_exact (last_stats history) pass.stats (λ q. sym (existing_is q) ∙ ap (find name_cmp q) (existing_shown view.records rows e) ∙ found_is q)

      back : last_stats history ≡ pass.stats → IsTrue (shows view.records rows)
      back e = shown_existing view.records rows is_view.ordered (same_entries name_cmp names_total names_exact (existing view.records) (map entry_of rows) (subst T (sym (existing_sorted view.records is_view.ordered)) tt) (subst T (sym sorted) tt) (λ q. existing_is q ∙ ap (λ m. get m q) e ∙ sym (found_is q)))

-- records with rising names are those that their names find
same_records : (a b : List RecordData) → is_sorted name_cmp (by_name a) ≡ true → is_sorted name_cmp (by_name b) ≡ true → ((q : List ℕ) → record_named q a ≡ record_named q b) → a ≡ b
same_records a b sorted_a sorted_b same =
    let keys = same_entries name_cmp names_total names_exact (by_name a) (by_name b) (subst T (sym sorted_a) tt) (subst T (sym sorted_b) tt) same in
    values a ∙ ap (map (λ (e : List ℕ × RecordData). e.1)) keys ∙ sym (values b)
  where
    values : (rs : List RecordData) → rs ≡ map (λ (e : List ℕ × RecordData). e.1) (by_name rs)
    values [] = refl
    values (r ∷ rs) = ap (λ l. r ∷ l) (values rs)

-- a history has one view
pub one_view : HasOneView
one_view history a b is_a is_b =
    let ticks = is_a.tick ∙ sym is_b.tick in
    let records = same_records a.records b.records is_a.ordered is_b.ordered (λ q. is_a.files q ∙ sym (is_b.files q)) in
    λ i. record { tick = ticks i; records = records i }
