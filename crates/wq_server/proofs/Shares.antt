-- Pauses with which the walks of a root keep their part of a processor.
use Rattle.std.proofs.Common.{◌≡◌, ◌∙◌, ℕ, zero, suc, ◌+◌, ◌*◌, ◌/◌, ◌<◌, ◌≤◌, ◌⊎◌, inl, inr, add-mul, mul-add, ap, mul-le-mul_left, min, ◌-◌, subst, sym}
use native.Mathlib.Omega.{arith}
use Rattle.std.proofs.lemmas.Bool.{cases_lt}
use Rattle.std.proofs.Math.Nat.{div-le_self, lt-mul-div-succ, mul_assoc, mul_comm}
use Rattle.wq_server.specs.Pace.{KeepsPart}

-- the pause after a walk suffices if it is the walk's length, times the parts that are to rest, over the part that
-- works, and a bit more
pub enough : (part walk parts pause : ℕ) → zero < part → parts + part ≡ 1000000
    → walk * parts / part + 1 ≤ pause → KeepsPart part walk pause
enough part walk parts pause some whole long =
    let rest : walk * parts < part * (walk * parts / part + 1) =
    lt-mul-div-succ (walk * parts) some in
    let more : part * (walk * parts / part + 1) ≤ part * pause =
    mul-le-mul_left part long in
    let both : walk * 1000000 ≡ walk * parts + walk * part =
    ap (λ n. walk * n) (sym whole) ∙ mul-add walk parts part in
    let turned : walk * part ≡ part * walk = mul_comm walk part in
    let sum : part * (walk + pause) ≡ part * walk + part * pause =
    mul-add part walk pause in
    omega (arith, rest, more, both, turned, sum)

-- so is the pause of the code, if no time is beyond the longest one
pub kept : (part walk made rest pause most : ℕ) → 1 ≤ part → part ≤ 1000000 → walk * 1000000 < most
    → made ≡ min (walk * (1000000 - part)) most → rest ≡ made / part
    → pause ≡ min (rest + 1) most → KeepsPart part walk pause
kept part walk made rest pause most some few small is_made is_rest is_pause =
    let parts : 1000000 - part ≤ 1000000 = omega (arith) in
    let product : walk * (1000000 - part) ≤ walk * 1000000 = mul-le-mul_left walk parts in
    let exact : made ≡ walk * (1000000 - part) = omega (arith, is_made, product, small) in
    let less : made / part ≤ made = div-le_self made part in
    let long : made / part + 1 ≤ pause = omega (arith, is_pause, is_rest, less, exact, product, small) in
    let whole : (1000000 - part) + part ≡ 1000000 = omega (arith, few, some) in
    enough part walk (1000000 - part) pause (omega (arith, some)) whole
    (subst (λ n. n / part + 1 ≤ pause) exact long)

-- a longer pause suffices too
pub longer : (part walk pause more : ℕ) → KeepsPart part walk pause
    → pause ≤ more → KeepsPart part walk more
longer part walk pause more keeps long =
    let sum : part * (walk + pause) ≤ part * (walk + more) =
    mul-le-mul_left part (omega (arith, long)) in
    omega (arith, keeps, sum)

-- the pause of the code with turns that a root sits out, if no time is beyond the longest one
pub summed : (turns walk pause turn more made most : ℕ) → turn ≡ min (walk + pause) most
    → more ≡ min (turn * turns) most → made ≡ min (pause + more) most
    → made ≡ min (pause + turns * (walk + pause)) most
summed zero walk pause turn more made most is_turn is_more is_made = omega (arith, is_turn, is_more, is_made)
summed (suc turns) walk pause turn more made most is_turn is_more is_made = by (cases_lt most (walk + pause))
  where
    by : (most < walk + pause) ⊎ (walk + pause ≤ most) → made ≡ min (pause + suc turns * (walk + pause)) most
    by (inl long) =
        let same : turn ≡ most = omega (arith, is_turn, long) in
        let one : most * 1 ≤ most * suc turns = mul-le-mul_left most (omega (arith)) in
        let product : turn * suc turns ≡ most * suc turns = ap (λ n. n * suc turns) same in
        let all : (walk + pause) * 1 ≤ (walk + pause) * suc turns = mul-le-mul_left (walk + pause) (omega (arith)) in
        let turned : suc turns * (walk + pause) ≡ (walk + pause) * suc turns = mul_comm (suc turns) (walk + pause) in
        omega (arith, long, one, product, all, turned, is_more, is_made)
    by (inr short) =
        let same : turn ≡ walk + pause = omega (arith, is_turn, short) in
        let product : turn * suc turns ≡ (walk + pause) * suc turns = ap (λ n. n * suc turns) same in
        let turned : suc turns * (walk + pause) ≡ (walk + pause) * suc turns = mul_comm (suc turns) (walk + pause) in
        omega (arith, product, turned, is_more, is_made)

-- with a pause so long, a root sits out its turns, each as long as a walk and the interval at least
pub sits_out : (turns interval walk first pause most : ℕ) → interval ≤ first
    → min (first + turns * (walk + first)) most ≤ pause → min ((turns + 1) * (walk + interval)) most ≤ walk + pause
sits_out turns interval walk first pause most long enough =
    let more : (turns + 1) * (walk + interval) ≤ (turns + 1) * (walk + first) = mul-le-mul_left (turns + 1) (omega (arith, long)) in
    let sum : (turns + 1) * (walk + first) ≡ turns * (walk + first) + 1 * (walk + first) = add-mul turns 1 (walk + first) in
    omega (arith, long, enough, more, sum)

-- with a pause so long, it takes so much less of its part
pub takes_less : (part turns walk first pause most : ℕ) → KeepsPart part walk first
    → min (first + turns * (walk + first)) most ≤ pause
    → (first + turns * (walk + first) ≤ most → pause ≡ first + turns * (walk + first))
    → pause < most → (turns + 1) * (walk * 1000000) ≤ part * (walk + pause)
takes_less part turns walk first pause most keeps enough exact short =
    let is : pause ≡ first + turns * (walk + first) = exact (omega (arith, enough, short)) in
    let sum : (turns + 1) * (walk + first) ≡ turns * (walk + first) + 1 * (walk + first) = add-mul turns 1 (walk + first) in
    let lasts : walk + pause ≡ (turns + 1) * (walk + first) = omega (arith, is, sum) in
    let all : (turns + 1) * (walk * 1000000) ≤ (turns + 1) * (part * (walk + first)) = mul-le-mul_left (turns + 1) keeps in
    let turned : (turns + 1) * (part * (walk + first)) ≡ part * ((turns + 1) * (walk + first)) =
    sym (mul_assoc (turns + 1) part (walk + first)) ∙ ap (λ n. n * (walk + first)) (mul_comm (turns + 1) part) ∙ mul_assoc part (turns + 1) (walk + first) in
    subst (λ n. (turns + 1) * (walk * 1000000) ≤ part * n) (sym lasts) (omega (arith, all, turned))
