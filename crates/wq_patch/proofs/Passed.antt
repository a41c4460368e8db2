-- A piece of a view of which one record more is passed.
use Rattle.std.proofs.Common.{◌≡◌, ◌+◌, ◌-◌, ◌≤◌, ℕ, suc, true, List, [], ◌∷◌, ◌++◌, Option, Some, None, IfNone, IfSome, take, drop, length, length-append, refl, ap, sym, ◌∙◌, arith}
use Rattle.std.proofs.lemmas.List.{drop-take, length-take, take-take}
use Rattle.wq_record.specs.RecordData.{RecordData}
use Rattle.wq_record.specs.Seen.{SeenData}
use Rattle.wq_view.specs.SeenRows.{seen_row, seen_rows}
use Rattle.wq_view.proofs.SeenAgain.{dropped_one}

-- what follows from what there is, or is not
pub map_none : {A : Type 0} (o : Option A) (P Q : Type 0) → (P → Q) → IfNone o P → IfNone o Q
map_none None P Q f p = f p
map_none (Some a) P Q f p = tt

pub map_some : {A : Type 0} (o : Option A) (P Q : A → Type 0) → ((a : A) → P a → Q a) → IfSome o P → IfSome o Q
map_some None P Q f p = tt
map_some (Some a) P Q f p = f a p

-- the records of a piece that are not passed
pub piece_left : (all left : List RecordData) (passed count : ℕ) → passed ≤ count → left ≡ drop passed all → drop passed (take count all) ≡ take (count - passed) left
piece_left all left passed count bound here =
    let sum : count ≡ passed + (count - passed) = omega (arith, bound) in
    ap (λ n. drop passed (take n all)) sum ∙ drop-take passed (count - passed) all ∙ ap (take (count - passed)) (sym here)

-- one record more is passed
pub next_left : (all left rest : List RecordData) (r : RecordData) (passed count : ℕ) → passed ≤ count → left ≡ drop passed all → left ≡ r ∷ rest → 1 ≤ count - passed
    → (drop passed (take count all) ≡ r ∷ drop (passed + 1) (take count all)) × (rest ≡ drop (passed + 1) all) × (passed + 1 ≤ count)
next_left all left rest r passed count bound here is there = (split, after, more)
  where
    after : rest ≡ drop (passed + 1) all
    after = dropped_one all left passed r rest here is

    more : passed + 1 ≤ count
    more = omega (arith, there)

    split : drop passed (take count all) ≡ r ∷ drop (passed + 1) (take count all)
    split =
        let one : count - passed ≡ suc (count - (passed + 1)) = omega (arith, there) in
        piece_left all left passed count bound here ∙ (λ j. take (one j) (is j))
        ∙ ap (λ rs. r ∷ rs) (sym (piece_left all rest (passed + 1) count more after))

-- the row of the next record, whose file exists
pub one_seen : (come rest : List RecordData) (r : RecordData) → come ≡ r ∷ rest → r.exists ≡ true → seen_rows (take 1 come) ≡ seen_row r ∷ []
one_seen come rest r is there =
    let one : seen_rows (r ∷ []) ≡ seen_row r ∷ [] = rw there refl in
    ap (λ rs. seen_rows (take 1 rs)) is ∙ one

-- a list with one item more
pub longer : (xs ys : List SeenData) (x : SeenData) (n : ℕ) → n ≡ length xs → ys ≡ xs ++ (x ∷ []) → n + 1 ≡ length ys
longer xs ys x n is more = omega (arith, is, ap length more, length-append xs (x ∷ []))

-- a run of the next records
pub run_come : (all left : List RecordData) (passed count n : ℕ) → passed + n ≤ count → left ≡ drop passed all → take n (drop passed (take count all)) ≡ take n left
run_come all left passed count n bound here =
    ap (take n) (piece_left all left passed count (omega (arith, bound)) here) ∙ take-take n (count - passed) left (omega (arith, bound))

pub run_there : (all left : List RecordData) (passed count n : ℕ) → passed + n ≤ count → left ≡ drop passed all → n ≤ length left → n ≤ length (drop passed (take count all))
run_there all left passed count n bound here there =
    omega (arith, bound, there, ap length (piece_left all left passed count (omega (arith, bound)) here), length-take (count - passed) left)
