-- Suffixes that are found among many texts.
use Rattle.std.proofs.Common.{◌≡◌, ◌<◌, ◌≤◌, ◌⊎◌, inl, inr, ℕ, true, false, not, ◌&&◌, ◌==◌, bytes_eq, List, [], ◌∷◌, map, length, get_or, Result, Ok, Err, refl, sym, ap, ◌∙◌, arith}
use Rattle.std.specs.Cmp.Lexicographic.{texts_ties}
use Rattle.std.specs.List.{AllWithin, list_any}
use Rattle.std.specs.List.Sorted.{IsBinarySearchResult, IsSearchInRange, IsSortedBy}
use Rattle.std.specs.Ordering.{is_eq, is_lt}
use Rattle.std.specs.Prelude.{is_ok}
use Rattle.std.specs.Str.{str_to_ascii_lowercase}
use Rattle.std.specs.declared.cmp.Ordering.TheVariants.{Less, Greater}
use Rattle.std.proofs.lemmas.Bool.{and_right, cases_lt, ne_eqb}
use Rattle.std.proofs.lemmas.List.{get_or-map, length-map}
use Rattle.std.proofs.lemmas.List.Folds.{list_any_at, list_any_none}
use Rattle.std.proofs.lemmas.List.Sorted.{searchable_from_sorted}
use Rattle.wq_base.specs.Compare.{folded_order, is_suffix}
use Rattle.wq_base.proofs.TextOrder.{folded_total}
use Rattle.wq_base.proofs.Facts.{item}

-- a text is a suffix that is not empty exactly if the order does not tell them apart
suffix_tied : (text : List ℕ) (b : ℕ) (suffix : List ℕ) → is_suffix text (b ∷ suffix) ≡ is_eq (folded_order text (b ∷ suffix))
suffix_tied [] b suffix = refl
suffix_tied (x ∷ text) b suffix =
    let some : (length (x ∷ text) == 0) ≡ false = ne_eqb (length (x ∷ text)) 0 (λ e. omega (arith, e)) in
    ap (λ t. not t && bytes_eq (str_to_ascii_lowercase (x ∷ text)) (str_to_ascii_lowercase (b ∷ suffix))) some ∙ texts_ties (str_to_ascii_lowercase (x ∷ text)) (str_to_ascii_lowercase (b ∷ suffix))

no_suffix : (text : List ℕ) → is_suffix text [] ≡ false
no_suffix [] = refl
no_suffix (x ∷ text) = and_right (not (length (x ∷ text) == 0)) false refl

-- no text is an empty suffix
pub none_among : (texts : List (List ℕ)) (suffix : List ℕ) → length suffix ≡ 0 → false ≡ list_any (λ text. is_suffix text suffix) texts
none_among texts [] e = sym (list_any_none (λ text. is_suffix text []) texts (λ k d h. no_suffix (get_or texts k d)))
none_among texts (b ∷ suffix) e = absurd (omega (arith, e))

-- a search finds a suffix exactly if it is among the texts
module _ {A : Type 0} (f : A → List ℕ) (xs : List A) (sorted : IsSortedBy (λ s t. is_lt (folded_order (f s) (f t))) xs) (suffix : List ℕ) where
  pub found_among : (r : Result ℕ ℕ) → (length suffix ≡ 0 → ⊥) → IsSearchInRange r (length xs) → IsBinarySearchResult (λ a. folded_order (f a) suffix) xs r → is_ok r ≡ list_any (λ text. is_suffix text suffix) (map f xs)
  found_among r some = at suffix some r refl
    where
      at : (s : List ℕ) → (length s ≡ 0 → ⊥) → (r : Result ℕ ℕ) → s ≡ suffix → IsSearchInRange r (length xs) → IsBinarySearchResult (λ a. folded_order (f a) suffix) xs r → is_ok r ≡ list_any (λ text. is_suffix text suffix) (map f xs)
      at [] none r is inside result = absurd (none refl)
      at (b ∷ s) none (Ok i) is inside result =
          let a = item xs i inside in
          let equal : is_suffix (f (get_or xs i a)) suffix ≡ true = ap (is_suffix (f (get_or xs i a))) (sym is) ∙ suffix_tied (f (get_or xs i a)) b s ∙ ap (λ t. is_eq (folded_order (f (get_or xs i a)) t)) is ∙ ap is_eq (result a) in
          sym (list_any_at (λ text. is_suffix text suffix) (map f xs) i (f a) (omega (arith, inside, length-map xs f)) (ap (λ t. is_suffix t suffix) (get_or-map f xs i a (f a) inside) ∙ equal))
      at (b ∷ s) none (Err i) is inside result = sym (list_any_none (λ text. is_suffix text suffix) (map f xs) (λ k d h. by k d (omega (arith, h, length-map xs f))))
        where
          parted : AllWithin (λ y. folded_order (f y) suffix ≡ Less) xs 0 i × AllWithin (λ y. folded_order (f y) suffix ≡ Greater) xs i (length xs)
          parted = result (searchable_from_sorted folded_total f xs suffix sorted)

          not_tied : (k : ℕ) (a : A) → k < length xs → is_eq (folded_order (f (get_or xs k a)) suffix) ≡ false
          not_tied k a h = side (cases_lt k i)
            where
              side : (k < i) ⊎ (i ≤ k) → is_eq (folded_order (f (get_or xs k a)) suffix) ≡ false
              side (inl low) = ap is_eq (parted.0 k a (omega arith) low)
              side (inr high) = ap is_eq (parted.1 k a high h)

          by : (k : ℕ) (d : List ℕ) → k < length xs → is_suffix (get_or (map f xs) k d) suffix ≡ false
          by k d h =
              let a = item xs k h in
              ap (λ t. is_suffix t suffix) (get_or-map f xs k a d h) ∙ ap (is_suffix (f (get_or xs k a))) (sym is) ∙ suffix_tied (f (get_or xs k a)) b s ∙ ap (λ t. is_eq (folded_order (f (get_or xs k a)) t)) is ∙ not_tied k a h
