-- The union of the positions that two tests keep.
use Rattle.std.proofs.Common.{◌≡◌, ℕ, zero, suc, ◌+◌, ◌<◌, Bool, true, false, cond, ◌||◌, List, [], ◌∷◌, ◌++◌, length, filter, slice_get, Option, Some, None, ◌⊎◌, inl, inr, append-nil, refl, ap, sym, ◌∙◌, arith}
use Rattle.std.specs.List.{AllByRecursion, range_with_len}
use Rattle.std.specs.Option.{option_map_or}
use Rattle.std.proofs.lemmas.Bool.{lt-ltb, le-ltb, eq-eqb, ne_eqb}
use Rattle.std.proofs.lemmas.List.Elements.{filter_agree}
use Rattle.wq_record.specs.RecordData.{RecordData}
use Rattle.wq_view.specs.Position.{passes_at, all_positions, positions_of}
use Rattle.wq_gen.specs.Union.{put_position, union}

-- the positions from one on are above each lower one
kept_above : (f : ℕ → Bool) (a from n : ℕ) → a < from → AllByRecursion (λ x. a < x) (filter f (range_with_len from n))
kept_above f a from zero low = tt
kept_above f a from (suc n) low = at (f from) (kept_above f a (from + 1) n (omega (arith, low)))
  where
    at : (b : Bool) → AllByRecursion (λ x. a < x) (filter f (range_with_len (from + 1) n)) → AllByRecursion (λ x. a < x) (cond b (from ∷ filter f (range_with_len (from + 1) n)) (filter f (range_with_len (from + 1) n)))
    at true rest = (low, rest)
    at false rest = rest

-- a number below all numbers of the right list comes first
put_first : (x : ℕ) (later : List ℕ → List ℕ) (ys : List ℕ) → AllByRecursion (λ y. x < y) ys → put_position x later ys ≡ x ∷ later ys
put_first x later [] above = refl
put_first x later (y ∷ ys) above = rw (lt-ltb x y above.0) refl

-- a number of both lists comes once
put_both : (x : ℕ) (later : List ℕ → List ℕ) (ys : List ℕ) → put_position x later (x ∷ ys) ≡ x ∷ later ys
put_both x later ys = rw (le-ltb x x (omega arith), eq-eqb x x refl) refl

-- a number of the right list that is below all of the left comes once
pub right_first : (xs ys : List ℕ) (y : ℕ) → AllByRecursion (λ x. y < x) xs → union xs (y ∷ ys) ≡ y ∷ union xs ys
right_first [] ys y above = refl
right_first (x ∷ xs) ys y above = rw (le-ltb x y (omega (arith, above.0)), ne_eqb x y (λ same. omega (arith, same, above.0))) refl

-- the union of no positions with a list is the list
pub union_none : (xs : List ℕ) → union xs [] ≡ xs
union_none [] = refl
union_none (x ∷ xs) = ap (λ rest. x ∷ rest) (union_none xs)

-- the union of a list with no positions is the list
pub union_empty : (xs ys : List ℕ) → length ys ≡ 0 → xs ≡ union xs ys
union_empty xs [] none = sym (union_none xs)
union_empty xs (y ∷ ys) none = absurd (omega (arith, none))

-- after the end of one list, the rest of the other comes
pub left_over : (xs ys : List ℕ) → (length xs ≡ 0) ⊎ (length ys ≡ 0) → union xs ys ≡ xs ++ ys
left_over [] ys ended = refl
left_over (x ∷ xs) [] ended = union_none (x ∷ xs) ∙ sym (append-nil (x ∷ xs))
left_over (x ∷ xs) (y ∷ ys) (inl none) = absurd (omega (arith, none))
left_over (x ∷ xs) (y ∷ ys) (inr none) = absurd (omega (arith, none))

-- a position below all others is in the union if it is in one of the lists
put_on : (a : ℕ) (b c : Bool) (xs ys zs : List ℕ) → union xs ys ≡ zs → AllByRecursion (λ x. a < x) xs → AllByRecursion (λ y. a < y) ys → union (cond b (a ∷ xs) xs) (cond c (a ∷ ys) ys) ≡ cond (b || c) (a ∷ zs) zs
put_on a true true xs ys zs h _ _ = put_both a (union xs) ys ∙ ap (λ rest. a ∷ rest) h
put_on a true false xs ys zs h _ above = put_first a (union xs) ys above ∙ ap (λ rest. a ∷ rest) h
put_on a false true xs ys zs h above _ = right_first xs ys a above ∙ ap (λ rest. a ∷ rest) h
put_on a false false xs ys zs h _ _ = h

-- the union of the positions that two tests keep has those that either keeps
pub union_filters : (f g : ℕ → Bool) (a n : ℕ) → union (filter f (range_with_len a n)) (filter g (range_with_len a n)) ≡ filter (λ i. f i || g i) (range_with_len a n)
union_filters f g a zero = refl
union_filters f g a (suc n) =
    put_on a (f a) (g a) (filter f (range_with_len (a + 1) n)) (filter g (range_with_len (a + 1) n)) (filter (λ i. f i || g i) (range_with_len (a + 1) n)) (union_filters f g (a + 1) n) (kept_above f a (a + 1) n (omega arith)) (kept_above g a (a + 1) n (omega arith))

-- a record at a position passes one of two tests if it passes either
passes_either : (p q : RecordData → Bool) (rs : List RecordData) (i : ℕ) → (passes_at p rs i || passes_at q rs i) ≡ passes_at (λ r. p r || q r) rs i
passes_either p q rs i = at (slice_get rs i)
  where
    at : (found : Option RecordData) → (option_map_or p found false || option_map_or q found false) ≡ option_map_or (λ r. p r || q r) found false
    at None = refl
    at (Some r) = refl

-- the positions of the records that pass one of two tests
pub union_positions : (p q : RecordData → Bool) (rs : List RecordData) → union (positions_of p rs) (positions_of q rs) ≡ positions_of (λ r. p r || q r) rs
union_positions p q rs =
    union_filters (passes_at p rs) (passes_at q rs) 0 (length rs) ∙ filter_agree _ _ (passes_either p q rs) (all_positions rs)

-- the same for lists of these positions
pub union_found : (p q : RecordData → Bool) (rs : List RecordData) (xs ys both : List ℕ) → xs ≡ positions_of p rs → ys ≡ positions_of q rs → both ≡ union xs ys → both ≡ positions_of (λ r. p r || q r) rs
union_found p q rs xs ys both left right is =
    is ∙ ap (λ us. union us ys) left ∙ ap (union (positions_of p rs)) right ∙ union_positions p q rs
