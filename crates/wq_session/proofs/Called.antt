-- Lists in which an element is found by a test, or by its place.
use Rattle.std.proofs.Common.{◌≡◌, ℕ, zero, suc, ◌+◌, Bool, true, false, not, ◌||◌, cond, List, [], ◌∷◌, ◌++◌, length, map, filter, None, Some, is_some, if◌then◌else◌, refl, ap, arith, nat_lt, slice_set, position, ◌∙◌, sym, subst, one-add}
use mathlib.Core.Bool.{false≢true}
use Rattle.std.specs.List.{list_any, position_or_len, remove}
use Rattle.std.proofs.lemmas.Bool.Decides.{nat_tests}
use Rattle.std.proofs.lemmas.List.{length-map}
use Rattle.wq_base.proofs.Facts.{not_chosen}
use Rattle.wq_registry.proofs.Places.{place_is}

-- and the test holds
place_there : (b : Bool) (n i : ℕ) → cond b (Some n) None ≡ Some i → b ≡ true
place_there true n i h = refl
place_there false n i h = cc

down : (n m : ℕ) → nat_lt (1 + n) (suc m) ≡ true → nat_lt n m ≡ true
down n m h = grind (arith, nat_tests)

down_past : (n m : ℕ) → nat_lt (1 + n) (suc m) ≡ false → nat_lt n m ≡ false
down_past n m h = grind (arith, nat_tests)

up : (n m : ℕ) → nat_lt n m ≡ true → nat_lt (1 + n) (suc m) ≡ true
up n m h = grind (arith, nat_tests)

up_past : (n m : ℕ) → nat_lt n m ≡ false → nat_lt (1 + n) (suc m) ≡ false
up_past n m h = grind (arith, nat_tests)

first_of_all : (m : ℕ) → nat_lt 0 (suc m) ≡ true
first_of_all m = grind (arith, nat_tests)

module _ {A : Type 0} where
  -- with an element in the place of the first that passes a test, or at the end
  unfoldable pub replaced : A → (A → Bool) → List A → List A
  replaced y test [] = y ∷ []
  replaced y test (x ∷ xs) = if test x then y ∷ xs else x ∷ replaced y test xs

  -- if one passes, it is in the place of the first of them
  set_first : (y : A) (test : A → Bool) (xs : List A) → nat_lt (position_or_len test xs) (length xs) ≡ true
      → slice_set xs (position_or_len test xs) y ≡ replaced y test xs
  unfolding replaced
  set_first y test [] there = cc
  set_first y test (x ∷ xs) there = by (test x) there (set_first y test xs)
    where
      by : (b : Bool) → nat_lt (cond (not b) (1 + position_or_len test xs) 0) (suc (length xs)) ≡ true
          → (nat_lt (position_or_len test xs) (length xs) ≡ true → slice_set xs (position_or_len test xs) y ≡ replaced y test xs)
          → slice_set (x ∷ xs) (cond (not b) (1 + position_or_len test xs) 0) y ≡ (if b then y ∷ xs else x ∷ replaced y test xs)
      by true there rest = refl
      by false there rest =
          ap (λ i. slice_set (x ∷ xs) i y) (one-add (position_or_len test xs))
          ∙ ap (λ xs. x ∷ xs) (rest (down (position_or_len test xs) (length xs) there))

  -- if none passes, it is at the end
  put_last : (y : A) (test : A → Bool) (xs : List A) → nat_lt (position_or_len test xs) (length xs) ≡ false
      → xs ++ y ∷ [] ≡ replaced y test xs
  unfolding replaced
  put_last y test [] none = refl
  put_last y test (x ∷ xs) none = by (test x) none (put_last y test xs)
    where
      by : (b : Bool) → nat_lt (cond (not b) (1 + position_or_len test xs) 0) (suc (length xs)) ≡ false
          → (nat_lt (position_or_len test xs) (length xs) ≡ false → xs ++ y ∷ [] ≡ replaced y test xs)
          → (x ∷ xs) ++ y ∷ [] ≡ (if b then y ∷ xs else x ∷ replaced y test xs)
      by true none rest = absurd (false≢true (sym none ∙ first_of_all (length xs)))
      by false none rest = ap (λ xs. x ∷ xs) (rest (down_past (position_or_len test xs) (length xs) none))

  -- whether one passes
  any_first : (test : A → Bool) (xs : List A) → nat_lt (position_or_len test xs) (length xs) ≡ list_any test xs
  any_first test [] = refl
  any_first test (x ∷ xs) = by (test x) (any_first test xs)
    where
      up_as : (n m : ℕ) (b : Bool) → nat_lt n m ≡ b → nat_lt (1 + n) (suc m) ≡ b
      up_as n m true is = up n m is
      up_as n m false is = up_past n m is

      by : (b : Bool) → nat_lt (position_or_len test xs) (length xs) ≡ list_any test xs → nat_lt (cond (not b) (1 + position_or_len test xs) 0) (suc (length xs)) ≡ (b || list_any test xs)
      by true rest = first_of_all (length xs)
      by false rest = up_as (position_or_len test xs) (length xs) (list_any test xs) rest

  pub any_placed : (test : A → Bool) (xs : List A) → is_some (position test xs) ≡ list_any test xs
  any_placed test xs = some (nat_lt (position_or_len test xs) (length xs)) (position_or_len test xs) ∙ any_first test xs
    where
      some : (b : Bool) (n : ℕ) → is_some (cond b (Some n) None) ≡ b
      some true n = refl
      some false n = refl

  pub set_placed : (y : A) (test : A → Bool) (xs : List A) (place : ℕ) → position test xs ≡ Some place
      → slice_set xs place y ≡ replaced y test xs
  set_placed y test xs place is =
      let found = nat_lt (position_or_len test xs) (length xs) in
      ap (λ i. slice_set xs i y) (sym (place_is found (position_or_len test xs) place is))
      ∙ set_first y test xs (place_there found (position_or_len test xs) place is)

  pub put_unplaced : (y : A) (test : A → Bool) (xs : List A) → position test xs ≡ None → xs ++ y ∷ [] ≡ replaced y test xs
  put_unplaced y test xs is = put_last y test xs (not_chosen (nat_lt (position_or_len test xs) (length xs)) (position_or_len test xs) is)

  pub set_between : (front : List A) (s : A) (later : List A) (place : ℕ) (w : A) → length front ≡ place
      → slice_set (front ++ s ∷ later) place w ≡ front ++ w ∷ later
  set_between [] s later place w is = subst (λ i. slice_set (s ∷ later) i w ≡ w ∷ later) is refl
  set_between (x ∷ front) s later place w is =
      subst (λ i. slice_set (x ∷ front ++ s ∷ later) i w ≡ x ∷ front ++ w ∷ later) is
      (ap (λ xs. x ∷ xs) (set_between front s later (length front) w refl))

  pub removed_between : (front : List A) (s : A) (later : List A) (place : ℕ) → length front ≡ place
      → remove (front ++ s ∷ later) place ≡ front ++ later
  removed_between [] s later place is = subst (λ i. remove (s ∷ later) i ≡ later) is refl
  removed_between (x ∷ front) s later place is =
      subst (λ i. remove (x ∷ front ++ s ∷ later) i ≡ x ∷ front ++ later) is
      (ap (λ xs. x ∷ xs) (removed_between front s later (length front) refl))

module _ {A B : Type 0} (f : A → B) where
  -- a search among the elements gives the same as one among their images
  position_of_made : (test : B → Bool) (xs : List A) → position_or_len (λ x. test (f x)) xs ≡ position_or_len test (map f xs)
  position_of_made test [] = refl
  position_of_made test (x ∷ xs) = ap (λ i. cond (not (test (f x))) (1 + i) 0) (position_of_made test xs)

  pub position_made : (test : B → Bool) (xs : List A) → position (λ x. test (f x)) xs ≡ position test (map f xs)
  position_made test xs =
      ap (λ i. cond (nat_lt i (length xs)) (Some i) None) (position_of_made test xs)
      ∙ ap (λ n. cond (nat_lt (position_or_len test (map f xs)) n) (Some (position_or_len test (map f xs))) None) (sym (length-map xs f))

  pub filter_made : (test : B → Bool) (xs : List A) → map f (filter (λ x. test (f x)) xs) ≡ filter test (map f xs)
  filter_made test [] = refl
  filter_made test (x ∷ xs) = by (test (f x)) (filter_made test xs)
    where
      by : (b : Bool) → map f (filter (λ x. test (f x)) xs) ≡ filter test (map f xs)
          → map f (cond b (x ∷ filter (λ x. test (f x)) xs) (filter (λ x. test (f x)) xs)) ≡ cond b (f x ∷ filter test (map f xs)) (filter test (map f xs))
      by true rest = ap (λ xs. f x ∷ xs) rest
      by false rest = rest

  pub set_made : (xs : List A) (i : ℕ) (w : A) → map f (slice_set xs i w) ≡ slice_set (map f xs) i (f w)
  set_made [] i w = refl
  set_made (x ∷ xs) zero w = refl
  set_made (x ∷ xs) (suc i) w = ap (λ xs. f x ∷ xs) (set_made xs i w)
