-- Names that are found among many.
use Rattle.std.proofs.Common.{◌≡◌, ◌<◌, ◌≤◌, ◌⊎◌, inl, inr, ℕ, true, false, bytes_eq, List, [], ◌∷◌, map, length, get_or, Result, Ok, Err, sym, ap, ◌∙◌, arith}
use Rattle.std.specs.Cmp.Lexicographic.{texts_ties}
use Rattle.std.specs.List.{AllWithin, list_any}
use Rattle.std.specs.List.Sorted.{IsBinarySearchResult, IsSearchInRange, IsSortedBy}
use Rattle.std.specs.Ordering.{is_eq, is_lt}
use Rattle.std.specs.Prelude.{is_ok}
use Rattle.std.specs.declared.cmp.Ordering.TheVariants.{Less, Greater}
use Rattle.std.proofs.lemmas.Bool.{cases_lt}
use Rattle.std.proofs.lemmas.Cmp.{nat_list_cmp_total}
use Rattle.std.proofs.lemmas.List.{get_or-map, length-map}
use Rattle.std.proofs.lemmas.List.Folds.{list_any_at, list_any_none}
use Rattle.std.proofs.lemmas.List.Sorted.{searchable_from_sorted}
use Rattle.wq_record.specs.Name.{name_cmp}

item : {A : Type 0} (xs : List A) (k : ℕ) → k < length xs → A
item [] k h = absurd (omega (arith, h))
item (x ∷ xs) k h = x

-- a search finds a name exactly if it is among the names
module _ {A : Type 0} (f : A → List ℕ) (xs : List A) (sorted : IsSortedBy (λ s t. is_lt (name_cmp (f s) (f t))) xs) (name : List ℕ) where
  pub found_among : (r : Result ℕ ℕ) → IsSearchInRange r (length xs) → IsBinarySearchResult (λ a. name_cmp (f a) name) xs r → is_ok r ≡ list_any (λ other. bytes_eq other name) (map f xs)
  found_among (Ok i) inside result =
      let a = item xs i inside in
      let equal : bytes_eq (f (get_or xs i a)) name ≡ true = texts_ties (f (get_or xs i a)) name ∙ ap is_eq (result a) in
      sym (list_any_at (λ other. bytes_eq other name) (map f xs) i (f a) (omega (arith, inside, length-map xs f)) (ap (λ t. bytes_eq t name) (get_or-map f xs i a (f a) inside) ∙ equal))
  found_among (Err i) inside result = sym (list_any_none (λ other. bytes_eq other name) (map f xs) (λ k d h. by k d (omega (arith, h, length-map xs f))))
    where
      parted : AllWithin (λ y. name_cmp (f y) name ≡ Less) xs 0 i × AllWithin (λ y. name_cmp (f y) name ≡ Greater) xs i (length xs)
      parted = result (searchable_from_sorted nat_list_cmp_total f xs name sorted)

      not_tied : (k : ℕ) (a : A) → k < length xs → is_eq (name_cmp (f (get_or xs k a)) name) ≡ false
      not_tied k a h = side (cases_lt k i)
        where
          side : (k < i) ⊎ (i ≤ k) → is_eq (name_cmp (f (get_or xs k a)) name) ≡ false
          side (inl low) = ap is_eq (parted.0 k a (omega arith) low)
          side (inr high) = ap is_eq (parted.1 k a high h)

      by : (k : ℕ) (d : List ℕ) → k < length xs → bytes_eq (get_or (map f xs) k d) name ≡ false
      by k d h =
          let a = item xs k h in
          ap (λ t. bytes_eq t name) (get_or-map f xs k a d h) ∙ texts_ties (f (get_or xs k a)) name ∙ not_tied k a h
