-- Parts of a share for several roots: what was handed out, whatever those get that need more than an even part.
use Rattle.std.proofs.Common.{◌≡◌, ◌∙◌, ℕ, ◌+◌, ◌*◌, ◌-◌, ◌<◌, ◌≤◌, min, List, length, take, get_or, ap, add-mul}
use native.Mathlib.Omega.{arith}
use Rattle.std.proofs.lemmas.List.Sums.{sum_by_more}
use Rattle.std.proofs.Math.Nat.{mul_comm, mul-le-mul_right}
use Rattle.wq_server.specs.Pace.{cut_to}

-- one need more
pub one_more : (needs : List ℕ) (i need level : ℕ) → i < length needs → get_or needs i 0 ≡ need
    → cut_to level (take (i + 1) needs) ≡ cut_to level (take i needs) + min need level
one_more needs i need level below is =
    sum_by_more (λ n. min n level) needs i 0 below ∙ ap (λ n. cut_to level (take i needs) + min n level) is

-- a need of no more than an even part is left as long as each of those so far took no more
pub is_left : (whole left others even i count need : ℕ) → whole + others * even ≤ left + i * even
    → even * count ≤ whole → i + 1 ≤ count → need ≤ even → need ≤ left
is_left whole left others even i count need enough few below small =
    let all : (i + 1) * even ≤ count * even = mul-le-mul_right even below in
    let turned : count * even ≡ even * count = mul_comm count even in
    let sum : (i + 1) * even ≡ i * even + 1 * even = add-mul i 1 even in
    omega (arith, enough, few, small, all, turned, sum)

-- it gets what it needs
pub takes_need : (whole left others level so_far more need : ℕ) → so_far + left ≤ whole + others * level
    → need ≤ left → more ≡ so_far + min need level → more + (left - need) ≤ whole + others * level
takes_need whole left others level so_far more need given enough is = omega (arith, given, enough, is)

-- one that needs more gets the level
pub takes_level : (whole left others level so_far more need : ℕ) → so_far + left ≤ whole + others * level
    → more ≡ so_far + min need level → more + left ≤ whole + (others + 1) * level
takes_level whole left others level so_far more need given is =
    let sum : (others + 1) * level ≡ others * level + 1 * level = add-mul others 1 level in
    omega (arith, given, is, sum)

-- the even parts of those that need less are there still
pub enough_after_need : (whole left others even i need : ℕ) → whole + others * even ≤ left + i * even
    → need ≤ even → need ≤ left → whole + others * even ≤ (left - need) + (i + 1) * even
enough_after_need whole left others even i need enough small there =
    let sum : (i + 1) * even ≡ i * even + 1 * even = add-mul i 1 even in
    omega (arith, enough, small, there, sum)

pub enough_after_more : (whole left others even i : ℕ) → whole + others * even ≤ left + i * even
    → whole + (others + 1) * even ≤ left + (i + 1) * even
enough_after_more whole left others even i enough =
    let sum : (i + 1) * even ≡ i * even + 1 * even = add-mul i 1 even in
    let both : (others + 1) * even ≡ others * even + 1 * even = add-mul others 1 even in
    omega (arith, enough, sum, both)
