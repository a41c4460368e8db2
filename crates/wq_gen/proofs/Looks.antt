-- How many looks the generators take.
use Rattle.std.proofs.Common.{◌≡◌, ℕ, zero, suc, ◌+◌, ◌-◌, ◌<◌, ◌≤◌, Bool, true, cond, ◌&&◌, nat_le, nat_lt, List, [], ◌∷◌, ◌++◌, length, count_by, filter, ap, ◌∙◌, arith, length-append}
use Rattle.std.specs.List.{range_with_len}
use Rattle.std.proofs.lemmas.Bool.{and_from, le-leb, lt-ltb}
use Rattle.wq_record.specs.RecordData.{RecordData}
use Rattle.wq_view.specs.Below.{is_below}
use Rattle.wq_view.specs.Position.{passes_at}
use Rattle.wq_gen.specs.Counted.{one_more}
use Rattle.wq_gen.proofs.Positions.{more}
use Rattle.wq_gen.proofs.SinceTick.{count_positions}

pub one_more_few : (n : ℕ) → one_more n ≤ n + 1
one_more_few n = omega arith

-- a range that passes is no longer than all that passes
range_few : (f : ℕ → Bool) (start k : ℕ) → ((i : ℕ) → start ≤ i → i < start + k → f i ≡ true) → k ≤ length (filter f (range_with_len 0 (start + k)))
range_few f start zero passes = omega arith
range_few f start (suc k) passes =
    let next : start + suc k ≡ suc (start + k) = omega arith in
    let one = ap (λ n. length (filter f (range_with_len 0 n))) next ∙ ap length (more f 0 (start + k) (start + k) (omega arith)) ∙ ap (λ b. length (filter f (range_with_len 0 (start + k)) ++ cond b ((start + k) ∷ []) [])) (passes (start + k) (omega arith) (omega arith)) ∙ length-append (filter f (range_with_len 0 (start + k))) ((start + k) ∷ []) in
    omega (arith, one, range_few f start k (λ i low high. passes i low (omega (arith, high))))

pub grows : (f : ℕ → Bool) (n k : ℕ) → length (filter f (range_with_len 0 n)) ≤ length (filter f (range_with_len 0 (n + k)))
grows f n zero =
    let same : n + 0 ≡ n = omega arith in
    omega (arith, ap (λ x. length (filter f (range_with_len 0 x))) same)
grows f n (suc k) =
    let next : n + suc k ≡ suc (n + k) = omega arith in
    let one = ap (λ x. length (filter f (range_with_len 0 x))) next ∙ ap length (more f 0 (n + k) (n + k) (omega arith)) ∙ length-append (filter f (range_with_len 0 (n + k))) (cond (f (n + k)) ((n + k) ∷ []) []) in
    omega (arith, one, grows f n k)

-- the records below a directory are as many as their range is long, or more
pub range_counted : (dir : List ℕ) (rs : List RecordData) (start end : ℕ) → ((i : ℕ) → passes_at (is_below dir) rs i ≡ (nat_le start i && nat_lt i end)) → start ≤ end → end ≤ length rs → end - start ≤ count_by (is_below dir) rs
range_counted dir rs start end exact rise fits =
    let f = passes_at (is_below dir) rs in
    let there : start + (end - start) ≡ end = omega (arith, rise) in
    let all : end + (length rs - end) ≡ length rs = omega (arith, fits) in
    let few = range_few f start (end - start) (λ i low high. exact i ∙ and_from (nat_le start i) (nat_lt i end) (le-leb start i low) (lt-ltb i end (omega (arith, high, there)))) in
    omega (arith, few, ap (λ x. length (filter f (range_with_len 0 x))) there, grows f end (length rs - end), ap (λ x. length (filter f (range_with_len 0 x))) all, count_positions (is_below dir) rs)
