-- The moves of records that a pass leaves as they are, and of the pairs of several chunks.
use Rattle.std.proofs.Common.{◌≡◌, ◌<◌, ℕ, ℤ, pos, zero, suc, ◌+◌, true, List, [], ◌∷◌, ◌++◌, length, take, get_or, refl, sym, ap, ◌∙◌, append_assoc, arith, length-append}
use mathlib.Core.Bool.{false≢true}
use Rattle.std.specs.List.{list_all, range_with_len}
use Rattle.std.proofs.lemmas.List.{length-map, take_more}
use Rattle.std.proofs.lemmas.Bool.{and_parts}
use Rattle.wq_view.specs.declared.chunk.Slot.{Slot}
use Rattle.wq_record.specs.Seen.{SeenData}
use Rattle.wq_record.specs.RecordData.{RecordData}
use Rattle.wq_view.specs.Merge.{PairData, record_alone, record_and_row, row_alone, is_unchanged, pair_after, pairs_of, records_after}
use Rattle.wq_view.specs.Run.{run_pairs, is_same_run}
use Rattle.wq_view.specs.Chunk.{slot_records, records_in}
use Rattle.wq_view.specs.Moves.{MovesData, with_known, with_pair, with_pairs, with_same}
use Rattle.wq_view.proofs.Runs.{same_after}
use Rattle.wq_view.proofs.Slots.{slot_taken}

-- two ranges, one after the other
pub range_both : (a n k b : ℕ) → a + n ≡ b → range_with_len a n ++ range_with_len b k ≡ range_with_len a (n + k)
range_both a zero k b is =
    let first : b ≡ a = omega (arith, is) in
    let count : k ≡ 0 + k = omega arith in
    ap (λ x. range_with_len x k) first ∙ ap (range_with_len a) count
range_both a (suc n) k b is =
    let count : suc (n + k) ≡ suc n + k = omega arith in
    ap (λ l. a ∷ l) (range_both (a + 1) n k b (omega (arith, is))) ∙ ap (range_with_len a) count

-- no record more
pub same_none : (m : MovesData) → m ≡ with_same 0 m
same_none m = λ i. record { next = none i; changed = m.changed; came = m.came }
  where
    none : m.next ≡ m.next + 0
    none = omega arith

same_first : (n : ℕ) (m : MovesData) → with_same n (with_known true m) ≡ with_same (suc n) m
same_first n m = λ i. record { next = next_is i; changed = m.changed; came = m.came }
  where
    next_is : (m.next + 1) + n ≡ m.next + suc n
    next_is = omega arith

-- two runs stay as they are
pub same_then : (n k : ℕ) (m : MovesData) → with_same k (with_same n m) ≡ with_same (n + k) m
same_then n k m = λ i. record { next = next_is i; changed = m.changed; came = m.came }
  where
    next_is : (m.next + n) + k ≡ m.next + (n + k)
    next_is = omega arith

known_pair : (p : PairData) (m : MovesData) → is_unchanged p ≡ true → with_pair p m ≡ with_known true m
known_pair (record_alone r) m e = ap (λ b. with_known b m) e
known_pair (record_and_row r row) m e = ap (λ b. with_known b m) e
known_pair (row_alone row) m e = absurd (false≢true e)

same_pairs : (ps : List PairData) (m : MovesData) → list_all is_unchanged ps ≡ true → with_pairs ps m ≡ with_same (length ps) m
same_pairs [] m e = same_none m
same_pairs (p ∷ ps) m e =
    let parts = and_parts (is_unchanged p) (list_all is_unchanged ps) e in
    ap (with_pairs ps) (known_pair p m parts.0) ∙ same_pairs ps (with_known true m) parts.1 ∙ same_first (length ps) m

count_same : (rs : List RecordData) (rows : List SeenData) → is_same_run rs rows ≡ true → length (run_pairs rs rows) ≡ length rs
count_same rs rows e = sym (length-map (run_pairs rs rows) (pair_after 0 (pos 0))) ∙ ap length (same_after 0 (pos 0) rs rows e)

-- the moves of a run that stays as it is
pub same_run : (rs : List RecordData) (rows : List SeenData) (m : MovesData) → is_same_run rs rows ≡ true → with_same (length rs) m ≡ with_pairs (run_pairs rs rows) m
same_run rs rows m e = ap (λ n. with_same n m) (sym (count_same rs rows e)) ∙ sym (same_pairs (run_pairs rs rows) m e)

-- the moves of pairs in two parts
pub pairs_then : (ps qs : List PairData) (m : MovesData) → with_pairs (ps ++ qs) m ≡ with_pairs qs (with_pairs ps m)
pairs_then [] qs m = refl
pairs_then (p ∷ ps) qs m = pairs_then ps qs (with_pair p m)

-- one chunk more that stays as it is
pub kept_step : (slots : List Slot) (i : ℕ) (slot : Slot) → i < length slots → get_or slots i slot ≡ slot → (m so_far next : MovesData) → so_far ≡ with_same (length (records_in (take i slots))) m → next ≡ with_same (length (slot_records slot)) so_far → next ≡ with_same (length (records_in (take (i + 1) slots))) m
kept_step slots i slot h is m so_far next so_far_is next_is =
    let before = records_in (take i slots) in
    next_is
    ∙ ap (with_same (length (slot_records slot))) so_far_is
    ∙ same_then (length before) (length (slot_records slot)) m
    ∙ ap (λ n. with_same n m) (sym (length-append before (slot_records slot)) ∙ ap length (sym (slot_taken slots i slot h is)))

-- one new record more
pub new_step : (rows : List SeenData) (i : ℕ) (row : SeenData) → i < length rows → get_or rows i row ≡ row → (m so_far next : MovesData) → so_far ≡ with_pairs (pairs_of [] (take i rows)) m → next ≡ with_pair (row_alone row) so_far → next ≡ with_pairs (pairs_of [] (take (i + 1) rows)) m
new_step rows i row h is m so_far next so_far_is next_is =
    next_is
    ∙ ap (with_pair (row_alone row)) so_far_is
    ∙ sym (pairs_then (pairs_of [] (take i rows)) (row_alone row ∷ []) m)
    ∙ ap (λ ps. with_pairs ps m) (sym (more (take i rows)))
    ∙ ap (λ l. with_pairs (pairs_of [] l) m) (sym (take_more rows i row h ∙ ap (λ r. take i rows ++ (r ∷ [])) is))
  where
    more : (l : List SeenData) → pairs_of [] (l ++ (row ∷ [])) ≡ pairs_of [] l ++ (row_alone row ∷ [])
    more [] = refl
    more (x ∷ l) = ap (λ rest. row_alone x ∷ rest) (more l)

-- one new record more after the pass
pub made_new : (tick : ℕ) (second : ℤ) (rows : List SeenData) (i : ℕ) (row : SeenData) → i < length rows → get_or rows i row ≡ row → (r : RecordData) (before so_far next : List RecordData) → so_far ≡ before ++ records_after tick second [] (take i rows) → r ≡ pair_after tick second (row_alone row) → next ≡ so_far ++ (r ∷ []) → next ≡ before ++ records_after tick second [] (take (i + 1) rows)
made_new tick second rows i row h is r before so_far next so_far_is r_is next_is =
    next_is
    ∙ ap (λ x. so_far ++ (x ∷ [])) r_is
    ∙ ap (λ l. l ++ (pair_after tick second (row_alone row) ∷ [])) so_far_is
    ∙ append_assoc before (records_after tick second [] (take i rows)) (pair_after tick second (row_alone row) ∷ [])
    ∙ ap (λ l. before ++ l) (sym (more (take i rows)))
    ∙ ap (λ l. before ++ records_after tick second [] l) (sym (take_more rows i row h ∙ ap (λ x. take i rows ++ (x ∷ [])) is))
  where
    more : (l : List SeenData) → records_after tick second [] (l ++ (row ∷ [])) ≡ records_after tick second [] l ++ (pair_after tick second (row_alone row) ∷ [])
    more [] = refl
    more (x ∷ l) = ap (λ rest. pair_after tick second (row_alone x) ∷ rest) (more l)

-- one chunk more that is shared
pub shared_step : (slots : List Slot) (i : ℕ) (slot : Slot) → i < length slots → get_or slots i slot ≡ slot → (before so_far next : List RecordData) → so_far ≡ before ++ records_in (take i slots) → next ≡ so_far ++ slot_records slot → next ≡ before ++ records_in (take (i + 1) slots)
shared_step slots i slot h is before so_far next so_far_is next_is =
    next_is
    ∙ ap (λ l. l ++ slot_records slot) so_far_is
    ∙ append_assoc before (records_in (take i slots)) (slot_records slot)
    ∙ ap (λ l. before ++ l) (sym (slot_taken slots i slot h is))
