-- The positions of the records of slots that pass a test, slot by slot.
use Rattle.std.proofs.Common.{◌≡◌, ℕ, zero, suc, ◌+◌, ◌-◌, ◌^◌, ◌<◌, ◌≤◌, min, Bool, List, [], ◌++◌, length, drop, get_or, sym, ap, ◌∙◌, arith, length-append}
use Rattle.std.proofs.lemmas.List.{drop_more}
use Rattle.std.proofs.Math.ListN.{drop_of_length-le}
use Rattle.wq_record.specs.RecordData.{RecordData}
use Rattle.wq_view.specs.declared.chunk.Slot.{Slot}
use Rattle.wq_view.specs.Chunk.{records_in, slot_records}
use Rattle.wq_view.specs.Looks.{count_after}
use Rattle.wq_view.specs.Position.{places_from}
use Rattle.wq_view.proofs.SuffixPlaces.{places_both}

-- looks more in two steps
pub more_after : (m n count : ℕ) → count_after (m + n) count ≡ count_after n (count_after m count)
more_after zero n count =
    let same : 0 + n ≡ n = omega arith in
    ap (λ k. count_after k count) same
more_after (suc m) n count =
    let next : suc m + n ≡ suc (m + n) = omega arith in
    ap (λ k. count_after k count) next ∙ more_after m n (min (count + 1) (2 ^ 64 - 1))

pub no_records : (slots : List Slot) (i : ℕ) → length slots ≤ i → records_in (drop i slots) ≡ []
no_records slots i past = ap records_in (drop_of_length-le slots past)

-- a slot with these records is passed
module _ (slots : List Slot) (i : ℕ) (d : Slot) (rs : List RecordData) (low : i < length slots) (is : rs ≡ slot_records (get_or slots i d)) where
  records_next : records_in (drop i slots) ≡ rs ++ records_in (drop (i + 1) slots)
  records_next = ap records_in (drop_more slots i d low) ∙ ap (λ x. x ++ records_in (drop (i + 1) slots)) (sym is)

  pub places_next : (test : RecordData → Bool) (at : ℕ) → places_from test at (records_in (drop i slots)) ≡ places_from test at rs ++ places_from test (at + length rs) (records_in (drop (i + 1) slots))
  places_next test at = ap (places_from test at) records_next ∙ places_both test at rs (records_in (drop (i + 1) slots))

  pub fits_next : (at n : ℕ) → at + length (records_in (drop i slots)) ≡ n → at + length rs + length (records_in (drop (i + 1) slots)) ≡ n
  fits_next at n fits = omega (arith, fits, ap length records_next, length-append rs (records_in (drop (i + 1) slots)))
