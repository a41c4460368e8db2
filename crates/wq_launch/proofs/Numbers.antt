-- The numbers of runs: one is free if fewer commands run than may.
use Rattle.std.proofs.Common.{◌≡◌, ◌∙◌, ◌⊎◌, inl, inr, ℕ, zero, suc, ◌+◌, ◌%◌, ◌^◌, ◌<◌, ◌≤◌, Bool}
use Rattle.std.proofs.Common.{true, false, ◌||◌, if◌then◌else◌, List, [], ◌∷◌, length, Option, Some}
use Rattle.std.proofs.Common.{None, MatchOption, ap, ap₂, refl, rules, subst, sym, true≢false}
use Rattle.std.proofs.Common.{nat_eq, nat_lt}
use native.Mathlib.Omega.{arith}
use Rattle.std.proofs.Math.Nat.{mod-eq_of_lt}
use Rattle.std.proofs.lemmas.Bool.Decides.{nat_tests}
use Rattle.std.proofs.lemmas.Bool.{eqb-true}
use Rattle.std.proofs.lemmas.Option.{same_Some}
use Rattle.std.proofs.lemmas.Map.Made.{length-le_from_is_member}
use Rattle.std.specs.Cmp.{nat_eq_equiv}
use Rattle.std.specs.List.{AllByRecursion, IsDistinct, list_any}
use Rattle.wq_launch.specs.Limit.{max_runs}
use Rattle.wq_launch.specs.Runs.{NumbersAreFree, first_free, is_running}
use Rattle.wq_launch.specs.Runs.{number_after}
use Rattle.wq_launch.proofs.Searches.{none_at, passed, taken_at}

-- how many numbers of 32 bits there are
abbrev all : ℕ
all = 2 ^ 32

-- the numbers that are tried, one after the other
abbrev upcoming : ℕ → ℕ → List ℕ
upcoming zero number = []
upcoming (suc count) number = number ∷ upcoming count (number_after number)

length-upcoming : (count number : ℕ) → length (upcoming count number) ≡ count
length-upcoming zero number = refl
length-upcoming (suc count) number = ap suc (length-upcoming count (number_after number))

-- the next number is one more, or it is 0 after the last one
abbrev Next : ℕ → Type 0
Next number = ((number_after number ≡ number + 1) × (number + 1 < all))
    ⊎ ((number_after number ≡ 0) × (number + 1 ≡ all))

-- each number has a next one
next : (number : ℕ) → number < all → Next number
next number small = by (nat_lt (number + 1) all) refl
  where
    by : (b : Bool) → nat_lt (number + 1) all ≡ b → Next number
    by true more = let less : number + 1 < all = grind (arith, nat_tests) in
        inl (mod-eq_of_lt less, less)
    by false more = let last : number + 1 ≡ all = grind (arith, nat_tests) in
        inr (ap (λ n. n % all) last, last)

-- a number that is not among so many from another on
abbrev Apart : ℕ → ℕ → ℕ → Type 0
Apart first count number =
    ((first < number) × (number + count ≤ first + all)) ⊎ (number + count ≤ first)

-- then it is not among the rest of them
still : (first count number : ℕ) → first < all → number < all → Apart first (suc count) number
    → Apart first count (number_after number)
still first count number small less (inl far) = by (next number less)
  where
    by : Next number → Apart first count (number_after number)
    by (inl one) = inl (omega (arith, far.0, far.1, one.0), omega (arith, far.0, far.1, one.0))
    by (inr last) = inr (omega (arith, far.0, far.1, last.0, last.1))
still first count number small less (inr far) = by (next number less)
  where
    by : Next number → Apart first count (number_after number)
    by (inl one) = inr (omega (arith, far, one.0))
    by (inr last) = inr (omega (arith, far, small, last.0, last.1))

-- the next number has 32 bits
small_after : (number : ℕ) → number < all → number_after number < all
small_after number less = by (next number less)
  where
    by : Next number → number_after number < all
    by (inl one) = omega (arith, one.0, one.1)
    by (inr last) = omega (arith, last.0)

-- a number is another than one that it is apart from
other : (first count number : ℕ) → Apart first (suc count) number → nat_eq first number ≡ false
other first count number (inl far) = grind (arith, nat_tests)
other first count number (inr far) = grind (arith, nat_tests)

-- and another than each of those that it is apart from
others : (first count number : ℕ) → first < all → number < all → Apart first count number
    → AllByRecursion (λ n. nat_eq first n ≡ false) (upcoming count number)
others first zero number small less apart = tt
others first (suc count) number small less apart = (
  other first count number apart,
  others first count (number_after number) small
      (small_after number less) (still first count number small less apart),
)

-- the first of them is apart from the rest
ahead : (count number : ℕ) → number < all → suc count ≤ all
    → Apart number count (number_after number)
ahead count number less few = by (next number less)
  where
    by : Next number → Apart number count (number_after number)
    by (inl one) = inl (omega (arith, one.0), omega (arith, few, one.0))
    by (inr last) = inr (omega (arith, few, last.0, last.1))

-- no two of them are equal
distinct : (count number : ℕ) → number < all → count ≤ all
    → IsDistinct nat_eq (upcoming count number)
unfolding IsDistinct
distinct zero number less few = tt
distinct (suc count) number less few = (
  others number count (number_after number) less (small_after number less)
      (ahead count number less few),
  distinct count (number_after number) (small_after number less) (omega (arith, few)),
)

-- the same test, asked the other way round
same-test : (q : ℕ) (xs : List ℕ) → list_any (λ r. nat_eq r q) xs ≡ list_any (nat_eq q) xs
same-test q [] = refl
same-test q (x ∷ xs) = ap₂ ◌||◌ (nat_eq_equiv.symm x q) (same-test q xs)

-- a number found among one number and more is that number, or among the more
one-more : (count number : ℕ) (running : List ℕ) (q : ℕ)
    → (first_free count (number_after number) running ≡ None
    → list_any (nat_eq q) (upcoming count (number_after number)) ≡ true
    → list_any (nat_eq q) running ≡ true)
    → first_free (suc count) number running ≡ None
    → (b : Bool) → is_running number running ≡ b → (e : Bool) → nat_eq q number ≡ e
    → list_any (nat_eq q) (upcoming (suc count) number) ≡ true
    → list_any (nat_eq q) running ≡ true
one-more count number running q rest none false free e is in-all =
    search (sym (taken_at count number running free) ∙ none)
one-more count number running q rest none true taken true same in-all =
    sym (same-test q running) ∙ ap (λ n. is_running n running) (eqb-true q number same) ∙ taken
one-more count number running q rest none true taken false differs in-all =
    rest (sym (passed count number running taken) ∙ none)
    (sym (ap (λ b. b || list_any (nat_eq q) (upcoming count (number_after number))) differs)
    ∙ in-all)

-- if none is free, then all that are tried are taken
all_taken : (count number : ℕ) (running : List ℕ) (q : ℕ)
    → first_free count number running ≡ None
    → list_any (nat_eq q) (upcoming count number) ≡ true → list_any (nat_eq q) running ≡ true
all_taken zero number running q none is = absurd (true≢false (sym is))
all_taken (suc count) number running q none is =
    one-more count number running q (all_taken count (number_after number) running q) none
    (is_running number running) refl (nat_eq q number) refl is

-- then there are at least so many
many : (count number : ℕ) (running : List ℕ) → number < all → count ≤ all
    → first_free count number running ≡ None → count ≤ length running
many count number running less few none =
    subst (λ n. n ≤ length running) (length-upcoming count number)
    (length-le_from_is_member nat_eq_equiv (upcoming count number) running
    (distinct count number less few) (λ q. all_taken count number running q none))

-- a number that is found is free
is_free : (count number : ℕ) (running : List ℕ) (n : ℕ) → first_free count number running ≡ Some n
    → is_running n running ≡ false
is_free zero number running n is = search (sym (none_at number running) ∙ is)
is_free (suc count) number running n is =
    by (is_running number running) refl (is_free count (number_after number) running n)
  where
    by : (b : Bool) → is_running number running ≡ b
        → (first_free count (number_after number) running ≡ Some n → is_running n running ≡ false)
        → is_running n running ≡ false
    by true taken rest = rest (sym (passed count number running taken) ∙ is)
    by false free rest =
        ap (λ k. is_running k running) (same_Some n number
        (sym is ∙ taken_at count number running free))
        ∙ free

-- a number found among more numbers than are taken
found_among : (count number : ℕ) (running : List ℕ) → number < all → count ≤ all
    → length running < count → (limit : ℕ) (found : Option ℕ)
    → first_free count number running ≡ found
    → MatchOption found (limit ≤ length running) (λ n. is_running n running ≡ false)
found_among count number running less few room limit None none =
    let taken : count ≤ length running = many count number running less few none in
    omega (arith, taken, room)
found_among count number running less few room limit (Some n) is =
    is_free count number running n is

-- a number is given if fewer commands run than may, and it is of none that runs
pub numbers_are_free : NumbersAreFree
numbers_are_free t less = by (nat_lt (length t.running) max_runs) refl
  where
    by : (b : Bool) → nat_lt (length t.running) max_runs ≡ b
        → MatchOption (if b then first_free (max_runs + 1) (number_after t.last) t.running else None)
        (max_runs ≤ length t.running) (λ n. is_running n t.running ≡ false)
    by false full = grind (arith, nat_tests)
    by true room = found_among (max_runs + 1) (number_after t.last) t.running
        (small_after t.last less) (omega arith) (grind (arith, nat_tests)) max_runs
        (first_free (max_runs + 1) (number_after t.last) t.running) refl
