-- A list of numbers that a sort made, and the rising list of the same numbers.
use Rattle.std.proofs.Common.{◌≡◌, ◌≢◌, ℕ, suc, ◌+◌, ◌<◌, ◌≤◌, ◌⊎◌, inl, inr, false, cond, ◌==◌, List, [], ◌∷◌, length, get_or, sum_by, refl, sym, ap, ◌∙◌, arith}
use Rattle.std.specs.List.{AllByRecursion}
use Rattle.std.specs.List.Sorted.{IsPermutation, IsSorted}
use Rattle.std.specs.Ordering.{is_lt, nat_cmp}
use Rattle.std.proofs.lemmas.Bool.{cases_lt, cases_eq, eq-eqb, ne_eqb}
use Rattle.std.proofs.lemmas.List.Sorted.{length_permutation, sum_by-IsPermutation}
use Rattle.std.proofs.lemmas.List.Sums.{sum_by-cons}
use Rattle.std.proofs.lemmas.Bool.Decides.{nat_tests}

-- how often a number is in a list
abbrev times : ℕ → List ℕ → ℕ
times n = sum_by (λ k. cond (k == n) 1 0)

-- each number is at most each later one
abbrev pub Rises : List ℕ → Type 0
Rises [] = Unit {0}
Rises (x ∷ xs) = AllByRecursion (λ y. x ≤ y) xs × Rises xs

times_cons : (n x : ℕ) (xs : List ℕ) → times n (x ∷ xs) ≡ cond (x == n) 1 0 + times n xs
times_cons n x xs = sum_by-cons (λ k. cond (k == n) 1 0) x xs

none_below : (n : ℕ) (xs : List ℕ) → AllByRecursion (λ y. n < y) xs → times n xs ≡ 0
none_below n [] all = refl
none_below n (x ∷ xs) all =
    let other : ◌≡◌ {A = ℕ} (cond (x == n) 1 0) 0 = ap (λ b. cond b 1 0) (ne_eqb x n (λ same. omega (arith, all.0, same))) in
    omega (arith, times_cons n x xs, other, none_below n xs all.1)

above_all : (n x : ℕ) (xs : List ℕ) → n < x → AllByRecursion (λ y. x ≤ y) xs → AllByRecursion (λ y. n < y) xs
above_all n x [] h all = tt
above_all n x (y ∷ xs) h all = (omega (arith, h, all.0), above_all n x xs h all.1)

here_once : (n : ℕ) (xs : List ℕ) → times n (n ∷ xs) ≡ 1 + times n xs
here_once n xs =
    let same : ◌≡◌ {A = ℕ} (cond (n == n) 1 0) 1 = ap (λ b. cond b 1 0) (eq-eqb n n refl) in
    omega (arith, times_cons n n xs, same)

-- rising lists in which each number is as often are the same
same_times : (xs ys : List ℕ) → Rises xs → Rises ys → length xs ≡ length ys → ((n : ℕ) → times n xs ≡ times n ys) → xs ≡ ys
same_times [] [] rx ry count same = refl
same_times [] (y ∷ ys) rx ry count same = absurd (omega (arith, count))
same_times (x ∷ xs) [] rx ry count same = absurd (omega (arith, count))
same_times (x ∷ xs) (y ∷ ys) rx ry count same = at (cases_eq x y) (same_times xs ys rx.1 ry.1 (omega (arith, count)))
  where
    apart : x ≢ y → (x < y) ⊎ (y < x) → ⊥
    apart isnt (inl less) = omega (arith, here_once x xs, same x, none_below x (y ∷ ys) (less, above_all x y ys less ry.0))
    apart isnt (inr more) = omega (arith, here_once y ys, same y, none_below y (x ∷ xs) (more, above_all y x xs more rx.0))

    order : x ≢ y → (x < y) ⊎ (y ≤ x) → (x < y) ⊎ (y < x)
    order isnt (inl less) = inl less
    order isnt (inr more) = inr (omega (arith, more, isnt))

    tail : (n : ℕ) → x ≡ y → times n xs ≡ times n ys
    tail n e =
        let head : ◌≡◌ {A = ℕ} (cond (x == n) 1 0) (cond (y == n) 1 0) = ap (λ k. cond (k == n) 1 0) e in
        omega (arith, same n, times_cons n x xs, times_cons n y ys, head)

    at : (x ≡ y) ⊎ (x ≢ y) → (((n : ℕ) → times n xs ≡ times n ys) → xs ≡ ys) → x ∷ xs ≡ y ∷ ys
    at (inr isnt) rest = absurd (apart isnt (order isnt (cases_lt x y)))
    at (inl e) rest = ap (λ k. k ∷ xs) e ∙ ap (λ l. y ∷ l) (rest (λ n. tail n e))

-- a sorted list rises
rises_from : (xs : List ℕ) → ((k : ℕ) → k + 1 < length xs → get_or xs k 0 ≤ get_or xs (k + 1) 0) → Rises xs
rises_from [] steps = tt
rises_from (x ∷ []) steps = (tt, tt)
rises_from (x ∷ y ∷ xs) steps =
    let later : Rises (y ∷ xs) = rises_from (y ∷ xs) (λ k h. ap2_le k (steps (suc k) (omega (arith, h)))) in
    let first : x ≤ y = steps 0 (omega arith) in
    ((first, through x y xs first later.0), later)
  where
    ap2_le : (k : ℕ) → get_or (x ∷ y ∷ xs) (suc k) 0 ≤ get_or (x ∷ y ∷ xs) (suc k + 1) 0 → get_or (y ∷ xs) k 0 ≤ get_or (y ∷ xs) (k + 1) 0
    ap2_le k h =
        let next : suc k + 1 ≡ suc (k + 1) = omega arith in
        omega (arith, h, ap (λ n. get_or (x ∷ y ∷ xs) n 0) next)

    through : (a b : ℕ) (l : List ℕ) → a ≤ b → AllByRecursion (λ z. b ≤ z) l → AllByRecursion (λ z. a ≤ z) l
    through a b [] h all = tt
    through a b (z ∷ l) h all = (omega (arith, h, all.0), through a b l h all.1)

-- what a sort gives of the numbers of a rising list is that list
pub sorted_is : (found sorted rising : List ℕ) → IsPermutation found rising → IsPermutation found sorted → IsSorted nat_cmp sorted → Rises rising → sorted ≡ rising
sorted_is found sorted rising first second sort rises =
    same_times sorted rising (rises_from sorted (λ k h. le k h)) rises (length_permutation found sorted second ∙ sym (length_permutation found rising first)) (λ n. sum_by-IsPermutation (λ k. cond (k == n) 1 0) found sorted second ∙ sym (sum_by-IsPermutation (λ k. cond (k == n) 1 0) found rising first))
  where
    le : (k : ℕ) → k + 1 < length sorted → get_or sorted k 0 ≤ get_or sorted (k + 1) 0
    le k h =
        let test : is_lt (nat_cmp (get_or sorted (k + 1) 0) (get_or sorted k 0)) ≡ false = sort k 0 (omega arith) h in
        grind (arith, nat_tests, test)
