-- The records below a directory are a run of a view's records.
use Rattle.std.proofs.Common.{◌≡◌, ◌-◌, ◌≤◌, ◌<◌, ℕ, zero, suc, Bool, true, false, ◌&&◌, nat_le, nat_lt, List, [], ◌∷◌, filter, take, drop, refl, ap, sym, ◌∙◌, arith}
use Rattle.std.proofs.lemmas.Bool.{and_from, and_left, and_right, le-leb, le-ltb, lt-leb, lt-ltb}
use Rattle.wq_view.specs.SeenRows.{seen_rows}
use Rattle.wq_view.specs.Below.{is_below}
use Rattle.wq_view.specs.Position.{passes_at}
use Rattle.wq_record.specs.RecordData.{RecordData}
use Rattle.wq_walk.specs.Glance.{rows_below}

-- no records
abbrev nothing : List RecordData
nothing = []

-- nothing is left of nothing
none_taken : (count from : ℕ) → take count (drop from nothing) ≡ nothing
none_taken zero zero = refl
none_taken zero (suc from) = refl
none_taken (suc count) zero = refl
none_taken (suc count) (suc from) = refl

-- the records that pass a test are those of a range, if the test fails before it and after it
run_of : (test : RecordData → Bool) (records : List RecordData) (start end : ℕ)
    → ((i : ℕ) → i < start → passes_at test records i ≡ false)
    → ((i : ℕ) → start ≤ i → i < end → passes_at test records i ≡ true)
    → ((i : ℕ) → end ≤ i → passes_at test records i ≡ false)
    → filter test records ≡ take (end - start) (drop start records)
run_of test [] start end before inside after = sym (none_taken (end - start) start)
run_of test (r ∷ records) zero zero before inside after =
    let no : test r ≡ false = after 0 (omega (arith)) in
    rw no (run_of test records zero zero
    (λ i low. absurd (omega (arith, low)))
    (λ i low high. absurd (omega (arith, high)))
    (λ i high. after (suc i) (omega (arith))))
run_of test (r ∷ records) zero (suc end) before inside after =
    let yes : test r ≡ true = inside 0 (omega (arith)) (omega (arith)) in
    let count : suc (end - 0) ≡ suc end - 0 = omega (arith) in
    rw yes (ap (λ rs. r ∷ rs) (run_of test records zero end
    (λ i low. absurd (omega (arith, low)))
    (λ i low high. inside (suc i) (omega (arith)) (omega (arith, high)))
    (λ i high. after (suc i) (omega (arith, high))))
    ∙ ap (λ n. take n (r ∷ records)) count)
run_of test (r ∷ records) (suc start) zero before inside after =
    let no : test r ≡ false = before 0 (omega (arith)) in
    let count : 0 - start ≡ 0 - suc start = omega (arith) in
    rw no (run_of test records start zero
    (λ i low. before (suc i) (omega (arith, low)))
    (λ i low high. absurd (omega (arith, high)))
    (λ i high. after (suc i) (omega (arith)))
    ∙ ap (λ n. take n (drop start records)) count)
run_of test (r ∷ records) (suc start) (suc end) before inside after =
    let no : test r ≡ false = before 0 (omega (arith)) in
    let count : end - start ≡ suc end - suc start = omega (arith) in
    rw no (run_of test records start end
    (λ i low. before (suc i) (omega (arith, low)))
    (λ i low high. inside (suc i) (omega (arith, low)) (omega (arith, high)))
    (λ i high. after (suc i) (omega (arith, high)))
    ∙ ap (λ n. take n (drop start records)) count)

-- the rows below a directory are those of its range
pub rows_of_run : (directory : List ℕ) (records : List RecordData) (start end : ℕ)
    → ((i : ℕ) → passes_at (is_below directory) records i ≡ (nat_le start i && nat_lt i end))
    → rows_below directory records ≡ seen_rows (take (end - start) (drop start records))
rows_of_run directory records start end exact =
    ap seen_rows (run_of (is_below directory) records start end
    (λ i low. exact i ∙ and_left (nat_le start i) (nat_lt i end) (lt-leb start i low))
    (λ i low high. exact i ∙ and_from (nat_le start i) (nat_lt i end) (le-leb start i low) (lt-ltb i end high))
    (λ i high. exact i ∙ and_right (nat_le start i) (nat_lt i end) (le-ltb i end high)))
