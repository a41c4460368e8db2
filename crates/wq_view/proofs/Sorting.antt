-- Facts about the names of rows that were sorted by name, and whose neighbours were compared.
use Rattle.std.proofs.Common.{◌≡◌, ℕ, ◌+◌, ◌<◌, Bool, true, false, List, [], map, length, get_or, bytes_eq, pos, IsTrue, ◌⊎◌, ◌↔◌, sym, refl, ap, subst, ◌∙◌, inl, inr, arith}
use mathlib.Core.Bool.{false≢true}
use Rattle.std.specs.declared.cmp.Ordering.{Ordering}
use Rattle.std.specs.declared.cmp.Ordering.TheVariants.{Less, Equal, Greater}
use Rattle.std.specs.Ordering.{is_lt, is_eq, eq_by_cmp, ordering_reverse}
use Rattle.std.specs.Cmp.{eq_by_cmp_equiv}
use Rattle.std.specs.Cmp.Lexicographic.{texts_ties}
use Rattle.std.specs.FinMap.{is_sorted}
use Rattle.std.specs.List.{IsDistinct, IsAllAdjacentAnswer}
use Rattle.std.specs.List.Sorted.{IsStrictlySortedBy, IsSortedBy, IsPermutation}
use Rattle.std.proofs.lemmas.List.{get_or-map, length-map}
use Rattle.std.proofs.lemmas.List.Sorted.{IsPermutation-map, IsPermutation-sym}
use Rattle.std.proofs.lemmas.Map.Keys.{IsDistinct-from_sorted, IsDistinct-IsPermutation, Less-from_sorted, apart_from_distinct, sorted_from_all_adjacent}
use Rattle.wq_base.proofs.Facts.{less_from_lt}
use Rattle.wq_record.specs.declared.kind.Kind.TheVariants.{Unknown}
use Rattle.wq_record.specs.Seen.{SeenData, entry_of}
use Rattle.wq_record.specs.Name.{name_cmp}
use Rattle.wq_view.specs.Listing.{names_of}
use Rattle.wq_view.proofs.NameOrder.{names_total, sorted_from_rising, rising_from_sorted}

-- a row past the end
nobody : SeenData
nobody = record { name = []; kind = Unknown; size = pos 0; mtime_ms = pos 0 }

-- the name of a row is below that of another
abbrev pub is_below : SeenData → SeenData → Bool
is_below a b = is_lt (name_cmp a.name b.name)

name_at : (rows : List SeenData) (k : ℕ) → k < length rows → get_or (names_of rows) k [] ≡ (get_or rows k nobody).name
name_at rows k h = get_or-map (λ (row : SeenData). row.name) rows k nobody [] h

ties_are_same : eq_by_cmp name_cmp ≡ bytes_eq
ties_are_same = λ i a b. sym (texts_ties a b) i

-- a row that is not above another and has another name is below it
between : (a b : SeenData) → is_below b a ≡ false → bytes_eq a.name b.name ≡ false → is_below a b ≡ true
between a b not_above apart = at (name_cmp a.name b.name) refl
  where
    at : (o : Ordering) → name_cmp a.name b.name ≡ o → is_lt o ≡ true
    at Less e = refl
    at Equal e = absurd (false≢true (sym apart ∙ texts_ties a.name b.name ∙ ap is_eq e))
    at Greater e = absurd (false≢true (sym not_above ∙ ap is_lt (names_total.antisymm b.name a.name ∙ ap ordering_reverse e)))

-- if neighbours rise, all names rise
rising_from_neighbours : (rows : List SeenData) → ((k : ℕ) → k + 1 < length rows → is_below (get_or rows k nobody) (get_or rows (k + 1) nobody) ≡ true) → IsStrictlySortedBy name_cmp (names_of rows)
rising_from_neighbours rows below = sorted_from_all_adjacent names_total (names_of rows) [] (λ k h.
    let inside : k + 1 < length rows = omega (arith, length-map rows (λ (row : SeenData). row.name)) in
    rw (name_at rows k (omega arith), name_at rows (k + 1) inside) (less_from_lt _ (below k inside)))

-- a comparison of neighbours tests whether the entries are sorted
pub sorted_from_look : (rows : List SeenData) (r : Bool) → IsAllAdjacentAnswer (λ x y b. b ≡ is_below x y) rows r → r ≡ is_sorted name_cmp (map entry_of rows)
sorted_from_look rows true all = sym (sorted_from_rising entry_of rows (rising_from_neighbours rows (λ k h. sym (all k nobody h))))
sorted_from_look rows false (k, h, apart) = elim (is_sorted name_cmp (map entry_of rows)) as (λ b. is_sorted name_cmp (map entry_of rows) ≡ b → false ≡ b) [
  | true ↦ λ e.
      let less = Less-from_sorted name_cmp (names_of rows) k (k + 1) [] (rising_from_sorted entry_of rows e) (omega arith) (omega (arith, length-map rows (λ (row : SeenData). row.name))) in
      apart nobody ∙ ap is_lt (rw (name_at rows k (omega arith), name_at rows (k + 1) h) at less)
  | false ↦ λ e. refl
] refl

-- names that rise are distinct
pub distinct_from_sorted : (rows : List SeenData) → is_sorted name_cmp (map entry_of rows) ≡ true → IsDistinct bytes_eq (names_of rows)
distinct_from_sorted rows e = subst (λ same. IsDistinct same (names_of rows)) ties_are_same (IsDistinct-from_sorted name_cmp (names_of rows) (rising_from_sorted entry_of rows e))

-- distinct names rise if no neighbours fall
pub sorted_from_weak : (rows : List SeenData) → IsSortedBy is_below rows → IsDistinct bytes_eq (names_of rows) → is_sorted name_cmp (map entry_of rows) ≡ true
sorted_from_weak rows weak distinct = sorted_from_rising entry_of rows (rising_from_neighbours rows (λ k h.
    let apart = apart_from_distinct bytes_eq (names_of rows) k (k + 1) [] distinct (omega arith) (omega (arith, length-map rows (λ (row : SeenData). row.name))) in
    between (get_or rows k nobody) (get_or rows (k + 1) nobody) (weak k nobody (omega arith) h) (rw (name_at rows k (omega arith), name_at rows (k + 1) h) at apart)))

-- rows in another order, none above the next, are sorted exactly if the names were distinct
pub sorted_tells : (old new : List SeenData) (r : Bool) → IsPermutation old new → (is_sorted name_cmp (map entry_of new) ≡ true) ⊎ IsSortedBy is_below new → r ≡ is_sorted name_cmp (map entry_of new) → IsTrue r ↔ IsDistinct bytes_eq (names_of old)
sorted_tells old new r moved weak is = (λ h. back (distinct_from_sorted new (sym is ∙ h)), λ distinct. is ∙ at weak (there distinct))
  where
    moved_names : IsPermutation (names_of old) (names_of new)
    moved_names = IsPermutation-map (λ (row : SeenData). row.name) old new moved

    flips : (a b : List ℕ) → bytes_eq a b ≡ bytes_eq b a
    flips a b = texts_ties a b ∙ (eq_by_cmp_equiv names_total).symm a b ∙ sym (texts_ties b a)

    there : IsDistinct bytes_eq (names_of old) → IsDistinct bytes_eq (names_of new)
    there = IsDistinct-IsPermutation bytes_eq flips _ _ moved_names

    back : IsDistinct bytes_eq (names_of new) → IsDistinct bytes_eq (names_of old)
    back = IsDistinct-IsPermutation bytes_eq flips _ _ (IsPermutation-sym _ _ moved_names)

    at : (is_sorted name_cmp (map entry_of new) ≡ true) ⊎ IsSortedBy is_below new → IsDistinct bytes_eq (names_of new) → is_sorted name_cmp (map entry_of new) ≡ true
    at (inl e) distinct = e
    at (inr w) distinct = sorted_from_weak new w distinct
