-- The byte order of names, and the lists that rise in it.
use Rattle.std.proofs.Common.{◌≡◌, ℕ, true, false, List, [], ◌∷◌, map, bytes_eq, sym, refl, ap, ◌∙◌}
use mathlib.Core.Bool.{false≢true}
use Rattle.std.specs.declared.cmp.Ordering.{Ordering}
use Rattle.std.specs.declared.cmp.Ordering.TheVariants.{Less, Equal, Greater}
use Rattle.std.specs.Ordering.{is_eq, is_lt}
use Rattle.std.specs.Cmp.{IsTotalOrder, tied_itself}
use Rattle.std.specs.Cmp.Lexicographic.{nat_list_cmp_total, texts_ties}
use Rattle.std.specs.FinMap.{IsAntisymmetric, nat_cmp-IsAntisymmetric, slice_cmp-IsAntisymmetric, is_sorted}
use Rattle.std.specs.FinMap.Entries.{below_all}
use Rattle.std.specs.List.{AllByRecursion}
use Rattle.std.specs.List.Sorted.{IsStrictlySortedBy}
use Rattle.std.proofs.lemmas.Slice.Eq.{bytes_eq-Decides}
use Rattle.std.proofs.lemmas.Bool.{and_parts}
use Rattle.wq_base.proofs.Facts.{less_from_lt}
use Rattle.wq_record.specs.Name.{name_cmp}

-- of two names one is below the other, or they are the same
pub names_total : IsTotalOrder name_cmp
names_total = nat_list_cmp_total

-- names that tie are equal
pub names_exact : IsAntisymmetric name_cmp
names_exact = slice_cmp-IsAntisymmetric nat_cmp-IsAntisymmetric

-- names that tie are the same
pub same_name : (a b : List ℕ) → bytes_eq a b ≡ true → a ≡ b
same_name a b e = (bytes_eq-Decides a b).0 e

-- the order of two names that are the same
pub order_of_same : (a b : List ℕ) → bytes_eq a b ≡ true → name_cmp a b ≡ Equal
order_of_same a b e = ap (name_cmp a) (sym (same_name a b e)) ∙ tied_itself names_total a

-- if two names differ, and the first is not below the second, the second is below the first
pub order_of_others : (a b : List ℕ) → bytes_eq a b ≡ false → is_lt (name_cmp a b) ≡ false → name_cmp a b ≡ Greater
order_of_others a b apart not_below = at (name_cmp a b) refl
  where
    at : (o : Ordering) → name_cmp a b ≡ o → name_cmp a b ≡ Greater
    at Less is = absurd (false≢true (sym not_below ∙ ap is_lt is))
    at Equal is = absurd (false≢true (sym apart ∙ texts_ties a b ∙ ap is_eq is))
    at Greater is = is

-- the names of a list of entries
module _ {A X : Type 0} (f : A → List ℕ × X) where
  below_from_rising : (x : List ℕ) (xs : List A) → AllByRecursion (λ y. name_cmp x y ≡ Less) (map (λ a. (f a).0) xs) → below_all name_cmp x (map f xs) ≡ true
  below_from_rising x [] all = refl
  below_from_rising x (a ∷ xs) all = rw all.0 (below_from_rising x xs all.1)

  rising_from_below : (x : List ℕ) (xs : List A) → below_all name_cmp x (map f xs) ≡ true → AllByRecursion (λ y. name_cmp x y ≡ Less) (map (λ a. (f a).0) xs)
  rising_from_below x [] e = tt
  rising_from_below x (a ∷ xs) e =
      let parts = and_parts _ _ e in
      (less_from_lt _ parts.0, rising_from_below x xs parts.1)

  -- names that rise are those of sorted entries
  pub sorted_from_rising : (xs : List A) → IsStrictlySortedBy name_cmp (map (λ a. (f a).0) xs) → is_sorted name_cmp (map f xs) ≡ true
  unfolding IsStrictlySortedBy
  sorted_from_rising [] rise = refl
  sorted_from_rising (a ∷ xs) rise = rw (below_from_rising (f a).0 xs rise.0) (sorted_from_rising xs rise.1)

  -- a list that is tested to be sorted rises
  pub rising_from_sorted : (xs : List A) → is_sorted name_cmp (map f xs) ≡ true → IsStrictlySortedBy name_cmp (map (λ a. (f a).0) xs)
  unfolding IsStrictlySortedBy
  rising_from_sorted [] e = tt
  rising_from_sorted (a ∷ xs) e =
      let parts = and_parts _ _ e in
      (rising_from_below (f a).0 xs parts.0, rising_from_sorted xs parts.1)
