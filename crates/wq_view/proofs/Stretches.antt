-- Stretches of records that are taken one after the other.
use Rattle.std.proofs.Common.{◌≡◌, ◌-◌, ◌≤◌, ℕ, ℤ, zero, suc, Bool, true, false, ◌&&◌, ◌==◌, List, [], ◌∷◌, ◌++◌, take, drop, length, length-append, append_assoc, refl, sym, ap, ◌∙◌, arith}
use mathlib.Core.Bool.{false≢true}
use Rattle.std.proofs.lemmas.Bool.{ne_eqb}
use Rattle.std.proofs.lemmas.List.{take-append-drop}
use Rattle.wq_record.specs.RecordData.{RecordData}
use Rattle.wq_record.specs.Seen.{SeenData}
use Rattle.wq_view.specs.Chunk.{records_in, slot_records}
use Rattle.wq_view.specs.Merge.{pairs_of, records_after, shows}
use Rattle.wq_view.specs.Moves.{MovesData, with_pairs, with_same}
use Rattle.wq_view.specs.Run.{is_same_run, rows_behind, run_after, run_pairs}
use Rattle.wq_view.specs.declared.chunk.Slot.{Slot}
use Rattle.wq_view.proofs.MoveSteps.{pairs_then, same_then}
use Rattle.wq_view.proofs.Runs.{after_then, run_then, shows_both}

-- the first records of the rest of a chunk
pub rest_taken : (records first later others : List RecordData) (k : ℕ) → first ≡ take k records → later ≡ drop k records → records ++ others ≡ first ++ (later ++ others)
rest_taken records first later others k first_is later_is =
    ap (λ l. l ++ others) (sym (take-append-drop k records) ∙ ap (λ l. l ++ drop k records) (sym first_is) ∙ ap (λ l. first ++ l) (sym later_is))
    ∙ append_assoc first later others

-- the next chunk
pub chunk_taken : (records : List RecordData) (slots later : List Slot) (slot : Slot) → length records ≡ 0 → slots ≡ slot ∷ later → records ++ records_in slots ≡ slot_records slot ++ (records ++ records_in later)
chunk_taken [] slots later slot none is = ap records_in is
chunk_taken (r ∷ records) slots later slot none is = absurd (omega (arith, none))

-- the first records of the next chunk
pub start_taken : (records : List RecordData) (slots later : List Slot) (slot : Slot) (first rest all : List RecordData) (k : ℕ) → length records ≡ 0 → slots ≡ slot ∷ later → all ≡ slot_records slot → first ≡ take k all → rest ≡ drop k all → records ++ records_in slots ≡ first ++ (rest ++ records_in later)
start_taken [] slots later slot first rest all k none is all_is first_is rest_is = ap records_in is ∙ ap (λ l. l ++ records_in later) (sym all_is) ∙ rest_taken all first rest (records_in later) k first_is rest_is
start_taken (r ∷ records) slots later slot first rest all k none is all_is first_is rest_is = absurd (omega (arith, none))

-- no record is left
pub none_left : (records : List RecordData) (slots : List Slot) → length records ≡ 0 → slots ≡ [] → records ++ records_in slots ≡ []
none_left [] slots none is = ap records_in is
none_left (r ∷ records) slots none is = absurd (omega (arith, none))

-- what is taken of a list, in two steps
pub taken_more : (all first rest : List RecordData) (more : ℕ) → all ≡ first ++ rest → length first ≤ more → take more all ≡ first ++ take (more - length first) rest
taken_more all first rest more is few = ap (take more) is ∙ at first more few
  where
    at : (first : List RecordData) (more : ℕ) → length first ≤ more → take more (first ++ rest) ≡ first ++ take (more - length first) rest
    at [] more few = ap (λ n. take n rest) (omega arith)
    at (r ∷ first) zero few = absurd (omega (arith, few))
    at (r ∷ first) (suc more) few = ap (λ l. r ∷ l) (at first more (omega (arith, few)) ∙ ap (λ n. first ++ take n rest) (omega arith))

-- and what is left of it
pub left_more : (all first rest : List RecordData) (more : ℕ) → all ≡ first ++ rest → length first ≤ more → drop more all ≡ drop (more - length first) rest
left_more all first rest more is few = ap (drop more) is ∙ at first more few
  where
    at : (first : List RecordData) (more : ℕ) → length first ≤ more → drop more (first ++ rest) ≡ drop (more - length first) rest
    at [] more few = ap (λ n. drop n rest) (omega arith)
    at (r ∷ first) zero few = absurd (omega (arith, few))
    at (r ∷ first) (suc more) few = at first more (omega (arith, few)) ∙ ap (λ n. drop n rest) (omega arith)

-- a list that is not empty has an item
pub some_item : {A : Type 0} (xs : List A) (b : Bool) → b ≡ (length xs == 0) → b ≡ false → 1 ≤ length xs
some_item [] b is no_item = absurd (false≢true (sym no_item ∙ is))
some_item (x ∷ xs) b is no_item = omega arith

module _ (all stretch rest : List RecordData) (more : ℕ) (is : all ≡ stretch ++ rest) (few : length stretch ≤ more) where
  -- the records that are kept, with a stretch more
  pub kept_on : (before made : List RecordData) → made ≡ before ++ stretch → made ++ take (more - length stretch) rest ≡ before ++ take more all
  kept_on before made made_is =
      ap (λ l. l ++ take (more - length stretch) rest) made_is
      ∙ append_assoc before stretch (take (more - length stretch) rest)
      ∙ ap (λ l. before ++ l) (sym (taken_more all stretch rest more is few))

  -- their moves
  pub kept_moves : (m next : MovesData) → next ≡ with_same (length stretch) m → with_same (length (take (more - length stretch) rest)) next ≡ with_same (length (take more all)) m
  kept_moves m next next_is =
      let later = take (more - length stretch) rest in
      ap (with_same (length later)) next_is
      ∙ same_then (length stretch) (length later) m
      ∙ ap (λ n. with_same n m) (sym (length-append stretch later) ∙ ap length (sym (taken_more all stretch rest more is few)))

  module _ (rows left : List SeenData) (left_is : left ≡ rows_behind stretch rows) where
    -- the records after a pass, with a stretch more
    pub replaced_on : (tick : ℕ) (second : ℤ) (before made : List RecordData) → made ≡ before ++ run_after tick second stretch rows → made ++ records_after tick second (take (more - length stretch) rest) left ≡ before ++ records_after tick second (take more all) rows
    replaced_on tick second before made made_is =
        let later = take (more - length stretch) rest in
        ap (λ l. l ++ records_after tick second later left) made_is
        ∙ append_assoc before (run_after tick second stretch rows) (records_after tick second later left)
        ∙ ap (λ l. before ++ (run_after tick second stretch rows ++ records_after tick second later l)) left_is
        ∙ ap (λ l. before ++ l) (sym (after_then tick second stretch rows later) ∙ ap (λ l. records_after tick second l rows) (sym (taken_more all stretch rest more is few)))

    -- their moves
    pub replaced_moves : (m next : MovesData) → next ≡ with_pairs (run_pairs stretch rows) m → with_pairs (pairs_of (take (more - length stretch) rest) left) next ≡ with_pairs (pairs_of (take more all) rows) m
    replaced_moves m next next_is =
        let later = take (more - length stretch) rest in
        ap (with_pairs (pairs_of later left)) next_is
        ∙ ap (λ l. with_pairs (pairs_of later l) (with_pairs (run_pairs stretch rows) m)) left_is
        ∙ sym (pairs_then (run_pairs stretch rows) (pairs_of later (rows_behind stretch rows)) m)
        ∙ ap (λ ps. with_pairs ps m) (sym (run_then stretch rows later) ∙ ap (λ l. pairs_of l rows) (sym (taken_more all stretch rest more is few)))

    -- whether the rows show the records, if a stretch stays as it is
    shown_parts : shows (take more all) rows ≡ (is_same_run stretch rows && shows (take (more - length stretch) rest) (rows_behind stretch rows))
    shown_parts = ap (λ l. shows l rows) (taken_more all stretch rest more is few) ∙ shows_both stretch rows (take (more - length stretch) rest)

    pub shown_on : is_same_run stretch rows ≡ true → shows (take (more - length stretch) rest) left ≡ shows (take more all) rows
    shown_on same = ap (shows (take (more - length stretch) rest)) left_is ∙ sym (shown_parts ∙ ap (λ b. b && shows (take (more - length stretch) rest) (rows_behind stretch rows)) same)

  -- and if it does not
  pub shown_not : (rows : List SeenData) → is_same_run stretch rows ≡ false → shows (take more all) rows ≡ false
  shown_not rows differs = shown_parts rows (rows_behind stretch rows) refl ∙ ap (λ b. b && shows (take (more - length stretch) rest) (rows_behind stretch rows)) differs

-- no record shows no rows, and no others
pub shown_empty : (rows : List SeenData) → (length rows == 0) ≡ shows [] rows
shown_empty [] = refl
shown_empty (row ∷ rows) = ne_eqb (length (row ∷ rows)) 0 (λ e. omega (arith, e))
