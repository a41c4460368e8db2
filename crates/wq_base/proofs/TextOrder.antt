-- Searches in an order of texts.
use Rattle.std.proofs.Common.{◌≡◌, ◌≤◌, ◌<◌, ◌+◌, ◌⊎◌, inl, inr, ℕ, Bool, true, false, ◌&&◌, ◌==◌, bytes_eq, List, [], ◌∷◌, ◌++◌, map-id, map, length, get_or, Result, Ok, Err, refl, sym, ap, ◌∙◌, arith}
use Rattle.std.specs.Cmp.{IsTotalOrder, then_total, tied_then, unsigned_ties}
use Rattle.std.specs.Cmp.Lexicographic.{slice_cmp, texts_ties}
use Rattle.std.specs.List.{AllWithin, list_any, range_with_len}
use Rattle.std.specs.List.Sorted.{IsBinarySearchResult, IsPermutation, IsSearchInRange, IsSortedBy}
use Rattle.std.specs.Ordering.{is_eq, is_lt, nat_cmp, ordering_then}
use Rattle.std.specs.Prelude.{is_ok}
use Rattle.std.specs.Str.{str_to_ascii_lowercase}
use Rattle.std.specs.declared.cmp.Ordering.{Ordering}
use Rattle.std.specs.declared.cmp.Ordering.TheVariants.{Less, Equal, Greater}
use Rattle.std.proofs.lemmas.Bool.{and_right, cases_lt, eq-eqb}
use Rattle.std.proofs.lemmas.Cmp.{nat_cmp_total, nat_list_cmp_total, on_total}
use Rattle.std.proofs.lemmas.List.{get_or-map, length-map}
use Rattle.std.proofs.lemmas.List.Folds.{list_any_at, list_any_none}
use Rattle.std.proofs.lemmas.List.FromFn.{fill_by_all, map-range_with_len_more}
use Rattle.std.proofs.lemmas.List.Sorted.{IsPermutation-map, list_any-IsPermutation, searchable_from_sorted}
use Rattle.std.proofs.lemmas.Slice.Eq.{bytes_eq-Decides}
use Rattle.wq_base.specs.Compare.{folded_order, same_text}
use Rattle.wq_base.specs.TextList.{AreInOrder, key_from, place_order, text_at, text_key, twofold_order}
use Rattle.wq_base.specs.declared.compare.Case.{Case}
use Rattle.wq_base.specs.declared.compare.Case.TheVariants.{Exact, Folded}
use Rattle.wq_base.specs.declared.text_list.Place.{Place}
use Rattle.wq_base.proofs.Facts.{item}

pub folded_total : IsTotalOrder folded_order
folded_total = on_total str_to_ascii_lowercase nat_list_cmp_total

pub twofold_total : IsTotalOrder twofold_order
twofold_total = then_total folded_total nat_list_cmp_total

folded_tied : (x y : List ℕ) → same_text Folded x y ≡ is_eq (folded_order x y)
folded_tied x y = texts_ties (str_to_ascii_lowercase x) (str_to_ascii_lowercase y)

-- the same bytes are the same if A to Z count as a to z
exact_too : (x y : List ℕ) (b : Bool) → bytes_eq x y ≡ b → (same_text Folded x y && b) ≡ b
exact_too x y false is = and_right (same_text Folded x y) false refl
exact_too x y true is =
    let same : str_to_ascii_lowercase x ≡ str_to_ascii_lowercase y = ap str_to_ascii_lowercase ((bytes_eq-Decides x y).0 is) in
    ap (λ b. b && true) ((bytes_eq-Decides (str_to_ascii_lowercase x) (str_to_ascii_lowercase y)).1 same)

exact_tied : (x y : List ℕ) → same_text Exact x y ≡ is_eq (twofold_order x y)
exact_tied x y =
    sym (exact_too x y (bytes_eq x y) refl)
    ∙ ap (λ b. b && bytes_eq x y) (folded_tied x y)
    ∙ ap (λ b. is_eq (folded_order x y) && b) (texts_ties x y)
    ∙ tied_then (folded_order x y) (slice_cmp nat_cmp x y)

-- texts that are the same have one key
one_key : (case : Case) (x y : List ℕ) → same_text case x y ≡ true → text_key x ≡ text_key y
one_key Exact x y is = ap text_key ((bytes_eq-Decides x y).0 is)
one_key Folded x y is =
    ap (key_from 2166136261) ((bytes_eq-Decides (str_to_ascii_lowercase x) (str_to_ascii_lowercase y)).0 is)

-- an order of texts with keys: that of the keys, and then that of the texts
abbrev keyed : (List ℕ → List ℕ → Ordering) → (ℕ × List ℕ) → (ℕ × List ℕ) → Ordering
keyed order a b = ordering_then (nat_cmp a.0 b.0) (order a.1 b.1)

keyed_total : (order : List ℕ → List ℕ → Ordering) → IsTotalOrder order → IsTotalOrder (keyed order)
keyed_total order total = then_total (on_total (λ k. k.0) nat_cmp_total) (on_total (λ k. k.1) total)

pub places_total : IsTotalOrder (λ (a b : ℕ × List ℕ). ordering_then (nat_cmp a.0 b.0) (twofold_order a.1 b.1))
places_total = keyed_total twofold_order twofold_total

-- what comes first decides, unless it is equal
first_not_less : (n a b : Ordering) → is_lt (ordering_then n (ordering_then a b)) ≡ false → is_lt (ordering_then n a) ≡ false
first_not_less Less a b e = e
first_not_less Equal Less b e = e
first_not_less Equal Equal b e = refl
first_not_less Equal Greater b e = refl
first_not_less Greater a b e = refl

-- a text with its key ties with one that has the same key exactly if they are the same
tie : (order : List ℕ → List ℕ → Ordering) (case : Case) → ((x y : List ℕ) → same_text case x y ≡ is_eq (order x y)) → (key : ℕ) (x y : List ℕ) → key ≡ text_key x → same_text case x y ≡ is_eq (keyed order (key, x) (text_key y, y))
tie order case tied key x y is = by (same_text case x y) refl ∙ ap (λ b. (key == text_key y) && b) (tied x y) ∙ ap (λ b. b && is_eq (order x y)) (unsigned_ties key (text_key y)) ∙ tied_then (nat_cmp key (text_key y)) (order x y)
  where
    by : (b : Bool) → same_text case x y ≡ b → same_text case x y ≡ ((key == text_key y) && same_text case x y)
    by false e = e ∙ sym (and_right (key == text_key y) false refl) ∙ ap (λ b. (key == text_key y) && b) (sym e)
    by true e = e ∙ sym (ap (λ b. b && true) (eq-eqb key (text_key y) (is ∙ one_key case x y e))) ∙ ap (λ b. (key == text_key y) && b) (sym e)

-- the texts at all places, in whatever order, are the texts
moved : (p : List ℕ → Bool) (texts : List (List ℕ)) (places : List ℕ) → IsPermutation (range_with_len 0 (length texts)) places → list_any p (map (text_at texts) places) ≡ list_any p texts
moved p texts places same =
    sym (list_any-IsPermutation p (map (text_at texts) (range_with_len 0 (length texts))) (map (text_at texts) places) (IsPermutation-map (text_at texts) (range_with_len 0 (length texts)) places same))
    ∙ ap (list_any p) (sym (fill_by_all (text_at texts) texts (length texts) [] refl (λ k h. refl)))

again : (f : Place → ℕ) (g : ℕ → List ℕ) (ps : List Place) → map (λ p. g (f p)) ps ≡ map g (map f ps)
again f g [] = refl
again f g (p ∷ ps) = ap (λ l. g (f p) ∷ l) (again f g ps)

module _ (texts : List (List ℕ)) (places : List Place) (right : AreInOrder texts places) (text : List ℕ) where
  abbrev text_of : Place → List ℕ
  text_of p = text_at texts p.place

  abbrev spot : Place → ℕ × List ℕ
  spot p = (p.key, text_of p)

  abbrev wanted : ℕ × List ℕ
  wanted = (text_key text, text)

  -- a search finds a text exactly if one of the texts is the same
  module _ (order : List ℕ → List ℕ → Ordering) (total : IsTotalOrder order) (case : Case) (tied : (x y : List ℕ) → same_text case x y ≡ is_eq (order x y)) (sorted : IsSortedBy (λ a b. is_lt (keyed order (spot a) (spot b))) places) where
    found_at : (r : Result ℕ ℕ) → IsSearchInRange r (length places) → IsBinarySearchResult (λ p. keyed order (spot p) wanted) places r → is_ok r ≡ list_any (λ one. same_text case one text) (map text_of places)
    found_at (Ok i) inside result =
        let a = item places i inside in
        let equal : same_text case (text_of (get_or places i a)) text ≡ true = tie order case tied ((get_or places i a).key) (text_of (get_or places i a)) text (right.1 i a inside) ∙ ap is_eq (result a) in
        sym (list_any_at (λ one. same_text case one text) (map text_of places) i (text_of a) (omega (arith, inside, length-map places text_of)) (ap (λ t. same_text case t text) (get_or-map text_of places i a (text_of a) inside) ∙ equal))
    found_at (Err i) inside result = sym (list_any_none (λ one. same_text case one text) (map text_of places) (λ k d h. by k d (omega (arith, h, length-map places text_of))))
      where
        parted : AllWithin (λ p. keyed order (spot p) wanted ≡ Less) places 0 i × AllWithin (λ p. keyed order (spot p) wanted ≡ Greater) places i (length places)
        parted = result (searchable_from_sorted (keyed_total order total) spot places wanted sorted)

        not_tied : (k : ℕ) (a : Place) → k < length places → is_eq (keyed order (spot (get_or places k a)) wanted) ≡ false
        not_tied k a h = side (cases_lt k i)
          where
            side : (k < i) ⊎ (i ≤ k) → is_eq (keyed order (spot (get_or places k a)) wanted) ≡ false
            side (inl low) = ap is_eq (parted.0 k a (omega arith) low)
            side (inr high) = ap is_eq (parted.1 k a high h)

        by : (k : ℕ) (d : List ℕ) → k < length places → same_text case (get_or (map text_of places) k d) text ≡ false
        by k d h =
            let a = item places k h in
            ap (λ t. same_text case t text) (get_or-map text_of places k a d h) ∙ tie order case tied ((get_or places k a).key) (text_of (get_or places k a)) text (right.1 k a h) ∙ not_tied k a h

    found : (r : Result ℕ ℕ) → IsSearchInRange r (length places) → IsBinarySearchResult (λ p. keyed order (spot p) wanted) places r → is_ok r ≡ list_any (λ one. same_text case one text) texts
    found r inside result =
        found_at r inside result
        ∙ ap (list_any (λ one. same_text case one text)) (again (λ p. p.place) (text_at texts) places)
        ∙ moved (λ one. same_text case one text) texts (map (λ p. p.place) places) right.0

  earlier : (a b : Place) → is_lt (place_order texts a b) ≡ false → is_lt (keyed folded_order (spot a) (spot b)) ≡ false
  earlier a b = first_not_less (nat_cmp a.key b.key) (folded_order (text_of a) (text_of b)) (slice_cmp nat_cmp (text_of a) (text_of b))

  pub found_exact : (r : Result ℕ ℕ) → IsSearchInRange r (length places) → IsBinarySearchResult (λ p. ordering_then (nat_cmp p.key (text_key text)) (twofold_order (text_at texts p.place) text)) places r → is_ok r ≡ list_any (λ one. same_text Exact one text) texts
  found_exact = found twofold_order twofold_total Exact exact_tied right.2

  pub found_folded : (r : Result ℕ ℕ) → IsSearchInRange r (length places) → IsBinarySearchResult (λ p. ordering_then (nat_cmp p.key (text_key text)) (folded_order (text_at texts p.place) text)) places r → is_ok r ≡ list_any (λ one. same_text Folded one text) texts
  found_folded = found folded_order folded_total Folded folded_tied (λ k d low high. earlier (get_or places (k + 1) d) (get_or places k d) (right.2 k d low high))

-- one place more
pub one_more : (n : ℕ) → range_with_len 0 n ++ n ∷ [] ≡ range_with_len 0 (n + 1)
one_more n =
    ap (λ l. l ++ n ∷ []) (sym (map-id (range_with_len 0 n)))
    ∙ sym (map-range_with_len_more (λ k. k) 0 n n (omega arith))
    ∙ map-id (range_with_len 0 (n + 1))
