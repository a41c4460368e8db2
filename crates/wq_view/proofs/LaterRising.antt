-- The records that a later pass than the first saw change, sorted by position.
use Rattle.std.proofs.Common.{◌≡◌, ◌≢◌, ℕ, zero, suc, ◌+◌, ◌<◌, ◌≤◌, Bool, true, false, ◌==◌, ◌&&◌, if◌then◌else◌, cond, leb, List, [], ◌∷◌, map, sum_by, IsPermutation, IsSorted, refl, sym, ap, ◌∙◌, ◌⊎◌, inl, inr, arith}
use Rattle.std.specs.Ordering.{nat_cmp}
use Rattle.std.specs.List.{AllByRecursion}
use Rattle.std.specs.List.Sorted.{IsNonDecreasingBy}
use Rattle.std.proofs.lemmas.Bool.{cases_eq}
use Rattle.std.proofs.lemmas.Bool.Decides.{leb_tells}
use Rattle.std.proofs.lemmas.List.Elements.{recursion_from_All}
use Rattle.std.proofs.lemmas.List.Sorted.{IsNonDecreasingBy-from_sort, sum_by-IsPermutation}
use Rattle.std.proofs.lemmas.List.Sums.{sum_by-append, sum_by-cons}
use Rattle.wq_base.proofs.Facts.{all_so}
use Rattle.wq_view.specs.Order.{Rises, is_later, newer, positions}
use Rattle.wq_view.proofs.Newest.{eq_same, eq_apart}
use Rattle.wq_view.proofs.LaterOrder.{positions_alike}
use Rattle.wq_view.proofs.Outside.{positions_rise}

-- 1 where a test passes
abbrev once : Bool → ℕ
once b = cond b 1 0

-- how often a number is in a list
abbrev count : ℕ → List ℕ → ℕ
count n = sum_by (λ k. once (k == n))

-- each number is at most all later ones
abbrev Up : List ℕ → Type 0
Up [] = Unit {0}
Up (x ∷ xs) = AllByRecursion (λ y. x ≤ y) xs × Up xs

up_sorted : (xs : List ℕ) → IsNonDecreasingBy (λ n. n) xs → Up xs
up_sorted [] h = tt
up_sorted (x ∷ xs) h =
    (recursion_from_All (λ y. x ≤ y) xs (λ k d lt. h 0 (suc k) d (omega arith) (omega (arith, lt))), up_sorted xs (λ i j d le lt. h (suc i) (suc j) d (omega (arith, le)) (omega (arith, lt))))

up_rises : (xs : List ℕ) → Rises xs → Up xs
up_rises [] h = tt
up_rises (x ∷ xs) h = (all_so (λ y. x < y) (λ y. x ≤ y) (λ y lt. omega (arith, lt)) xs h.0, up_rises xs h.1)

counted : (x : ℕ) (xs : List ℕ) → count x (x ∷ xs) ≡ suc (count x xs)
counted x xs =
    let one : once (x == x) ≡ 1 = ap once (eq_same x) in
    omega (arith, sum_by-cons (λ k. once (k == x)) x xs, one)

none_above : (n : ℕ) (xs : List ℕ) → AllByRecursion (λ y. n < y) xs → count n xs ≡ 0
none_above n [] all = refl
none_above n (x ∷ xs) all =
    let no : once (x == n) ≡ 0 = ap once (eq_apart x n (λ e. omega (arith, e, all.0))) in
    omega (arith, sum_by-cons (λ k. once (k == n)) x xs, no, none_above n xs all.1)

-- two sorted lists that have each number as often are equal
same_sorted : (xs ys : List ℕ) → Up xs → Up ys → ((n : ℕ) → count n xs ≡ count n ys) → xs ≡ ys
same_sorted [] [] a b same = refl
same_sorted [] (y ∷ ys) a b same = absurd (omega (arith, same y, counted y ys))
same_sorted (x ∷ xs) [] a b same = absurd (omega (arith, same x, counted x xs))
same_sorted (x ∷ xs) (y ∷ ys) a b same = at (leb_tells x y) (leb_tells y x) (same_sorted xs ys a.1 b.1)
  where
    first : x ≡ y → (n : ℕ) → count n xs ≡ count n ys
    first e n =
        let here : once (x == n) ≡ once (y == n) = ap (λ k. once (k == n)) e in
        omega (arith, same n, sum_by-cons (λ k. once (k == n)) x xs, sum_by-cons (λ k. once (k == n)) y ys, here)

    below : (n m : ℕ) (l : List ℕ) → n < m → AllByRecursion (λ k. m ≤ k) l → AllByRecursion (λ k. n < k) (m ∷ l)
    below n m l lt all = (lt, all_so (λ k. m ≤ k) (λ k. n < k) (λ k le. omega (arith, le, lt)) l all)

    at : ((leb x y ≡ true) × (x ≤ y)) ⊎ ((leb x y ≡ false) × (y < x)) → ((leb y x ≡ true) × (y ≤ x)) ⊎ ((leb y x ≡ false) × (x < y)) → (((n : ℕ) → count n xs ≡ count n ys) → xs ≡ ys) → x ∷ xs ≡ y ∷ ys
    at (inl g) (inl h) rest =
        let e : x ≡ y = omega (arith, g.1, h.1) in
        ap (λ k. k ∷ xs) e ∙ ap (λ l. y ∷ l) (rest (first e))
    at (inl g) (inr h) rest = absurd (omega (arith, same x, counted x xs, none_above x (y ∷ ys) (below x y ys h.1 b.0)))
    at (inr g) h rest = absurd (omega (arith, same y, counted y ys, none_above y (x ∷ xs) (below y x xs g.1 a.0)))

sum_suc : (f : ℕ → ℕ) (ps : List ℕ) → sum_by f (map suc ps) ≡ sum_by (λ p. f (suc p)) ps
sum_suc f [] = refl
sum_suc f (p ∷ ps) = omega (arith, sum_by-cons f (suc p) (map suc ps), sum_by-cons (λ p. f (suc p)) p ps, sum_suc f ps)

sum_first : (f : ℕ → ℕ) (b : Bool) (ps : List ℕ) → sum_by f (if b then 0 ∷ map suc ps else map suc ps) ≡ cond b (f 0) 0 + sum_by (λ p. f (suc p)) ps
sum_first f true ps = omega (arith, sum_by-cons f 0 (map suc ps), sum_suc f ps)
sum_first f false ps = omega (arith, sum_suc f ps)

-- of three tests one part or the other passes where the whole does
part : (a b c : Bool) (v : ℕ) → once a + once b ≡ once c → cond a v 0 + cond b v 0 ≡ cond c v 0
part true true true v e = absurd (omega (arith, e))
part true true false v e = absurd (omega (arith, e))
part true false true v e = omega arith
part true false false v e = absurd (omega (arith, e))
part false true true v e = omega arith
part false true false v e = absurd (omega (arith, e))
part false false true v e = absurd (omega (arith, e))
part false false false v e = refl

sums_parted : (f : ℕ → ℕ) (a b c : ℕ → Bool) → ((n : ℕ) → once (a n) + once (b n) ≡ once (c n)) → (xs : List ℕ) → sum_by f (positions a xs) + sum_by f (positions b xs) ≡ sum_by f (positions c xs)
sums_parted f a b c parts [] = refl
sums_parted f a b c parts (x ∷ xs) =
    omega (arith, sum_first f (a x) (positions a xs), sum_first f (b x) (positions b xs), sum_first f (c x) (positions c xs), part (a x) (b x) (c x) (f 0) (parts x), sums_parted (λ p. f (suc p)) a b c parts xs)

-- whether a tick is one of so many after the first
abbrev is_between : ℕ → ℕ → Bool
is_between more n = is_later n && leb n (suc more)

between_more : (more n : ℕ) → once (n == suc (more + 1)) + once (is_between more n) ≡ once (is_between (suc more) n)
between_more more n = at (cases_eq n (suc (more + 1))) (leb_tells 2 n) (leb_tells n (suc more)) (leb_tells n (suc (suc more)))
  where
    at : (n ≡ suc (more + 1)) ⊎ (n ≢ suc (more + 1)) → ((leb 2 n ≡ true) × (2 ≤ n)) ⊎ ((leb 2 n ≡ false) × (n < 2)) → ((leb n (suc more) ≡ true) × (n ≤ suc more)) ⊎ ((leb n (suc more) ≡ false) × (suc more < n)) → ((leb n (suc (suc more)) ≡ true) × (n ≤ suc (suc more))) ⊎ ((leb n (suc (suc more)) ≡ false) × (suc (suc more) < n)) → once (n == suc (more + 1)) + once (leb 2 n && leb n (suc more)) ≡ once (leb 2 n && leb n (suc (suc more)))
    at (inl e) (inl f) (inl g) h = absurd (omega (arith, e, g.1))
    at (inl e) (inl f) (inr g) (inl h) =
        let yes : (n == suc (more + 1)) ≡ true = ap (λ k. k == suc (more + 1)) e ∙ eq_same (suc (more + 1)) in
        rw (yes, f.0, g.0, h.0) refl
    at (inl e) (inl f) (inr g) (inr h) = absurd (omega (arith, e, h.1))
    at (inl e) (inr f) g h = absurd (omega (arith, e, f.1))
    at (inr e) (inr f) g h =
        let no : (n == suc (more + 1)) ≡ false = eq_apart n (suc (more + 1)) e in
        rw (no, f.0) refl
    at (inr e) (inl f) (inl g) (inl h) =
        let no : (n == suc (more + 1)) ≡ false = eq_apart n (suc (more + 1)) e in
        rw (no, f.0, g.0, h.0) refl
    at (inr e) (inl f) (inl g) (inr h) = absurd (omega (arith, g.1, h.1))
    at (inr e) (inl f) (inr g) (inl h) = absurd (e (omega (arith, g.1, h.1)))
    at (inr e) (inl f) (inr g) (inr h) =
        let no : (n == suc (more + 1)) ≡ false = eq_apart n (suc (more + 1)) e in
        rw (no, f.0, g.0, h.0) refl

none_between : (xs : List ℕ) → positions (is_between 0) xs ≡ []
none_between [] = refl
none_between (x ∷ xs) = at (leb_tells 2 x) (leb_tells x 1) (none_between xs)
  where
    at : ((leb 2 x ≡ true) × (2 ≤ x)) ⊎ ((leb 2 x ≡ false) × (x < 2)) → ((leb x 1 ≡ true) × (x ≤ 1)) ⊎ ((leb x 1 ≡ false) × (1 < x)) → positions (is_between 0) xs ≡ [] → positions (is_between 0) (x ∷ xs) ≡ []
    at (inl g) (inl h) rest = absurd (omega (arith, g.1, h.1))
    at (inl g) (inr h) rest = rw (g.0, h.0) (ap (map suc) rest)
    at (inr g) h rest = rw g.0 (ap (map suc) rest)

-- the list of what changed later has the positions that the rising one has
sum_newer : (f : ℕ → ℕ) (more : ℕ) (xs : List ℕ) → sum_by f (newer more 1 xs) ≡ sum_by f (positions (is_between more) xs)
sum_newer f zero xs = ap (sum_by f) (sym (none_between xs))
sum_newer f (suc more) xs =
    omega (arith, sum_by-append f (positions (λ n. n == suc (more + 1)) xs) (newer more 1 xs), sum_newer f more xs, sums_parted f (λ n. n == suc (more + 1)) (is_between more) (is_between (suc more)) (between_more more) xs)

between_all : (t n : ℕ) → (1 ≤ n) × (n ≤ suc t) → is_between t n ≡ is_later n
between_all t n h = at (leb_tells n (suc t)) (leb 2 n)
  where
    at : ((leb n (suc t) ≡ true) × (n ≤ suc t)) ⊎ ((leb n (suc t) ≡ false) × (suc t < n)) → (b : Bool) → (b && leb n (suc t)) ≡ b
    at (inl g) true = g.0
    at (inl g) false = refl
    at (inr g) b = absurd (omega (arith, g.1, h.1))

-- a sorted list of what changed later has the positions of these records
pub sorted_later : (t : ℕ) (ticks list rising : List ℕ) → list ≡ newer t 1 ticks → AllByRecursion (λ n. (1 ≤ n) × (n ≤ suc t)) ticks → IsPermutation list rising → IsSorted nat_cmp rising → rising ≡ positions is_later ticks
sorted_later t ticks list rising list_is all same sorted =
    same_sorted rising (positions is_later ticks) (up_sorted rising (IsNonDecreasingBy-from_sort (λ n. n) rising sorted)) (up_rises (positions is_later ticks) (positions_rise is_later ticks)) (λ n. counts n)
  where
    counts : (n : ℕ) → count n rising ≡ count n (positions is_later ticks)
    counts n =
        sum_by-IsPermutation (λ k. once (k == n)) list rising same
        ∙ ap (count n) list_is
        ∙ sum_newer (λ k. once (k == n)) t ticks
        ∙ ap (count n) (positions_alike (is_between t) is_later ticks (all_so (λ n. (1 ≤ n) × (n ≤ suc t)) (λ n. is_between t n ≡ is_later n) (between_all t) ticks all))
