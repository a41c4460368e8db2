-- The place of a name among records in order.
use Rattle.std.proofs.Common.{Bool, Option, ◌⊎◌, ◌==◌, ◌≤◌, IfNone, IfSome, ◌≡◌, ℕ, zero, suc, ◌<◌, ◌≢◌, true, false, cond, List, [], ◌∷◌, length, get_or, slice_get, Some, None, Result, Ok, Err, MatchOption, inl, inr, sym, refl, ap, subst, ◌∙◌, arith}
use mathlib.Core.Bool.{false≢true}
use Rattle.std.specs.declared.cmp.Ordering.{Ordering}
use Rattle.std.specs.declared.cmp.Ordering.TheVariants.{Less, Equal, Greater}
use Rattle.std.specs.Ordering.{is_lt, is_eq, eq_by_cmp, ordering_reverse}
use Rattle.std.specs.FinMap.{is_sorted}
use Rattle.std.specs.FinMap.Entries.{below_all}
use Rattle.std.specs.List.Sorted.{IsBinarySearchResult, IsPartitionedBy, IsPartitionPoint, IsSearchInRange, IsSortedBy}
use Rattle.std.specs.Bool.{then_some}
use Rattle.std.specs.Option.{option_map_or}
use Rattle.std.specs.Result.{result_ok}
use Rattle.std.proofs.lemmas.Bool.{cases_lt, cases_order, ne_eqb, eq-eqb, and_parts}
use Rattle.std.proofs.lemmas.Map.Text.{is_eq-slice_cmp}
use Rattle.std.proofs.lemmas.Option.{slice_get-get_or, slice_get_past}
use native.Mathlib.Numerals.{unary_clauses}
use Rattle.std.proofs.lemmas.List.Sorted.{searchable_from_sorted}
use Rattle.wq_base.proofs.Facts.{less_from_lt}
use Rattle.wq_record.specs.Name.{name_cmp}
use Rattle.wq_record.specs.RecordData.{RecordData, blank_record, by_name, record_named}
use Rattle.wq_view.specs.Position.{has_name, passes_at}
use Rattle.wq_view.proofs.NameOrder.{names_total, names_exact, order_of_same}
use Rattle.wq_view.proofs.Listings.{tie_is_same, name_ties_itself}

-- a record past the end
pub nobody : RecordData
nobody = blank_record []

below_at : (x : List ℕ) (rs : List RecordData) (at : ℕ) (d : RecordData) → below_all name_cmp x (by_name rs) ≡ true → at < length rs → name_cmp x (get_or rs at d).name ≡ Less
below_at x [] at d e h = absurd (omega arith)
below_at x (r ∷ rs) zero d e h = less_from_lt (name_cmp x r.name) (and_parts (is_lt (name_cmp x r.name)) (below_all name_cmp x (by_name rs)) e).0
below_at x (r ∷ rs) (suc at) d e h = below_at x rs at d (and_parts (is_lt (name_cmp x r.name)) (below_all name_cmp x (by_name rs)) e).1 (omega arith)

rest_sorted : (r : RecordData) (rs : List RecordData) → is_sorted name_cmp (by_name (r ∷ rs)) ≡ true → is_sorted name_cmp (by_name rs) ≡ true
rest_sorted r rs e = (and_parts (below_all name_cmp r.name (by_name rs)) (is_sorted name_cmp (by_name rs)) e).1

head_below : (r : RecordData) (rs : List RecordData) → is_sorted name_cmp (by_name (r ∷ rs)) ≡ true → below_all name_cmp r.name (by_name rs) ≡ true
head_below r rs e = (and_parts (below_all name_cmp r.name (by_name rs)) (is_sorted name_cmp (by_name rs)) e).0

-- in records in the order of their names, a later record has a later name
pub rise_at : (rs : List RecordData) (i j : ℕ) (d : RecordData) → is_sorted name_cmp (by_name rs) ≡ true → i < j → j < length rs → name_cmp (get_or rs i d).name (get_or rs j d).name ≡ Less
rise_at [] i j d e low h = absurd (omega arith)
rise_at (r ∷ rs) zero zero d e low h = absurd (omega arith)
rise_at (r ∷ rs) zero (suc j) d e low h = below_at r.name rs j d (head_below r rs e) (omega arith)
rise_at (r ∷ rs) (suc i) zero d e low h = absurd (omega arith)
rise_at (r ∷ rs) (suc i) (suc j) d e low h = rise_at rs i j d (rest_sorted r rs e) (omega arith) (omega arith)

-- neighbouring names rise, as a binary search needs it
neighbours : (rs : List RecordData) → is_sorted name_cmp (by_name rs) ≡ true → IsSortedBy (λ a b. is_lt (name_cmp a.name b.name)) rs
neighbours [] e k d low h = absurd (omega arith)
neighbours (r ∷ rs) e zero d low h =
    let less = below_at r.name rs 0 d (head_below r rs e) (omega arith) in
    ap is_lt (names_total.antisymm (get_or rs 0 d).name r.name ∙ ap ordering_reverse less)
neighbours (r ∷ rs) e (suc k) d low h = simp unary_clauses (simp unary_clauses at (neighbours rs (rest_sorted r rs e) k d (omega arith) (omega arith)))

-- a name finds the record that has it
named_at : (q : List ℕ) (rs : List RecordData) (at : ℕ) → is_sorted name_cmp (by_name rs) ≡ true → at < length rs → (get_or rs at nobody).name ≡ q → slice_get rs at ≡ record_named q rs
named_at q [] at e h is = absurd (omega arith)
named_at q (r ∷ rs) zero e h is = subst (λ n. Some r ≡ record_named n (r ∷ rs)) is (rw (tie_is_same r.name r.name, name_ties_itself r.name) refl)
named_at q (r ∷ rs) (suc at) e h is =
    let less : name_cmp r.name q ≡ Less = subst (λ n. name_cmp r.name n ≡ Less) is (below_at r.name rs at nobody (head_below r rs e) (omega arith)) in
    let apart : name_cmp q r.name ≡ Greater = names_total.antisymm q r.name ∙ ap ordering_reverse less in
    rw apart (named_at q rs at (rest_sorted r rs e) (omega arith) is)

-- a name that no record has finds nothing
named_nowhere : (q : List ℕ) (rs : List RecordData) → ((k : ℕ) → k < length rs → name_cmp (get_or rs k nobody).name q ≢ Equal) → record_named q rs ≡ None
named_nowhere q [] apart = refl
named_nowhere q (r ∷ rs) apart = elim (eq_by_cmp name_cmp q r.name) as (λ b. eq_by_cmp name_cmp q r.name ≡ b → cond b (Some r) (record_named q rs) ≡ None) [
  | true ↦ λ e. absurd (apart 0 (omega arith) (same e))
  | false ↦ λ e. named_nowhere q rs (λ k h. apart (suc k) (omega arith))
] refl
  where
    same : eq_by_cmp name_cmp q r.name ≡ true → name_cmp r.name q ≡ Equal
    same e = at (name_cmp q r.name) refl
      where
        at : (o : Ordering) → name_cmp q r.name ≡ o → name_cmp r.name q ≡ Equal
        at Less is = absurd (false≢true (sym (ap is_eq is) ∙ e))
        at Equal is = names_total.antisymm r.name q ∙ ap ordering_reverse is
        at Greater is = absurd (false≢true (sym (ap is_eq is) ∙ e))

-- the result of a binary search by name
pub searched : (q : List ℕ) (rs : List RecordData) (r : Result ℕ ℕ) → is_sorted name_cmp (by_name rs) ≡ true → IsSearchInRange r (length rs) → IsBinarySearchResult (λ a. name_cmp a.name q) rs r → MatchOption (result_ok r) (record_named q rs ≡ None) (λ i. (i < length rs) × (slice_get rs i ≡ record_named q rs))
searched q rs (Ok at) sorted in_range equal = (in_range, named_at q rs at sorted in_range (names_exact _ _ (equal nobody)))
searched q rs (Err at) sorted in_range parted =
    let parts = parted (searchable_from_sorted names_total (λ (a : RecordData). a.name) rs q (neighbours rs sorted)) in
    named_nowhere q rs (λ k h same. elim (cases_lt k at) [
      | inl low ↦ cc (parts.0 k nobody (omega arith) low)
      | inr high ↦ cc (parts.1 k nobody high h)
    ])

-- a binary search finds the position of the name, and no other
pub alone : (q : List ℕ) (rs : List RecordData) (r : Result ℕ ℕ) → is_sorted name_cmp (by_name rs) ≡ true → IsSearchInRange r (length rs) → IsBinarySearchResult (λ a. name_cmp a.name q) rs r → MatchOption (result_ok r) ((j : ℕ) → passes_at (has_name q) rs j ≡ false) (λ i. (j : ℕ) → passes_at (has_name q) rs j ≡ (j == i))
alone q rs (Ok i) sorted in_range equal = λ j. at j (cases_lt j (length rs)) (cases_order j i)
  where
    found : (get_or rs i nobody).name ≡ q
    found = names_exact _ _ (equal nobody)

    at : (j : ℕ) → (j < length rs) ⊎ (length rs ≤ j) → (j ≡ i) ⊎ ((j < i) ⊎ (i < j)) → passes_at (has_name q) rs j ≡ (j == i)
    at j (inr past) _ = rw (slice_get_past rs j past, ne_eqb j i (λ s. omega (arith, past, in_range, s))) refl
    at j (inl h) (inl s) = rw (slice_get-get_or rs j nobody h, eq-eqb j i s) (sym (is_eq-slice_cmp (get_or rs j nobody).name q) ∙ ap is_eq (ap (λ k. name_cmp (get_or rs k nobody).name q) s ∙ equal nobody))
    at j (inl h) (inr (inl less)) = rw (slice_get-get_or rs j nobody h, ne_eqb j i (λ s. omega (arith, less, s))) (sym (is_eq-slice_cmp (get_or rs j nobody).name q) ∙ ap is_eq (subst (λ n. name_cmp (get_or rs j nobody).name n ≡ Less) found (rise_at rs j i nobody sorted less in_range)))
    at j (inl h) (inr (inr more)) = rw (slice_get-get_or rs j nobody h, ne_eqb j i (λ s. omega (arith, more, s))) (sym (is_eq-slice_cmp (get_or rs j nobody).name q) ∙ ap is_eq (names_total.antisymm (get_or rs j nobody).name q ∙ ap ordering_reverse (subst (λ n. name_cmp n (get_or rs j nobody).name ≡ Less) found (rise_at rs i j nobody sorted more h))))
alone q rs (Err i) sorted in_range parted = λ j. at j (cases_lt j (length rs)) (cases_lt j i) (parted (searchable_from_sorted names_total (λ (a : RecordData). a.name) rs q (neighbours rs sorted)))
  where
    at : (j : ℕ) → (j < length rs) ⊎ (length rs ≤ j) → (j < i) ⊎ (i ≤ j) → IsPartitionPoint (λ a. name_cmp a.name q ≡ Less) (λ a. name_cmp a.name q ≡ Greater) rs i → passes_at (has_name q) rs j ≡ false
    at j (inr past) _ parts = rw (slice_get_past rs j past) refl
    at j (inl h) (inl low) parts = rw (slice_get-get_or rs j nobody h) (sym (is_eq-slice_cmp (get_or rs j nobody).name q) ∙ ap is_eq (parts.0 j nobody (omega arith) low))
    at j (inl h) (inr high) parts = rw (slice_get-get_or rs j nobody h) (sym (is_eq-slice_cmp (get_or rs j nobody).name q) ∙ ap is_eq (parts.1 j nobody high h))

-- of two cases, the one without a value
pub absent_from : {A : Type 0} (P : Type 0) (Q : A → Type 0) (o : Option A) → MatchOption o P Q → IfNone o P
absent_from P Q None holds = holds
absent_from P Q (Some a) holds = tt

-- of two cases, the one with a value
pub found_from : {A : Type 0} (P : Type 0) (Q : A → Type 0) (o : Option A) → MatchOption o P Q → IfSome o Q
found_from P Q None holds = tt
found_from P Q (Some a) holds = holds

-- where the names before one end, the record there has it, or none does
module _ (q : List ℕ) (rs : List RecordData) (at : ℕ) (sorted : is_sorted name_cmp (by_name rs) ≡ true) (bound : at ≤ length rs) (parted : IsPartitionPoint (λ (r : RecordData). is_lt (name_cmp r.name q) ≡ true) (λ (r : RecordData). is_lt (name_cmp r.name q) ≡ false) rs at) where
  -- the record there has the name, or is none or has another
  abbrev IsThere : Bool → Type 0
  IsThere true = (at < length rs) × ((d : RecordData) → name_cmp (get_or rs at d).name q ≡ Equal)
  IsThere false = at < length rs → (d : RecordData) → name_cmp (get_or rs at d).name q ≡ Equal → ⊥

  others : IsThere false → IsPartitionPoint (λ (r : RecordData). name_cmp r.name q ≡ Less) (λ (r : RecordData). name_cmp r.name q ≡ Greater) rs at
  others absent = (λ k d low less. less_from_lt _ (parted.0 k d low less), λ k d high less. by k d high less (name_cmp (get_or rs k d).name q) refl (cases_lt at k))
    where
      by : (k : ℕ) (d : RecordData) → at ≤ k → k < length rs → (o : Ordering) → name_cmp (get_or rs k d).name q ≡ o → (at < k) ⊎ (k ≤ at) → name_cmp (get_or rs k d).name q ≡ Greater
      by k d high less Less is _ = absurd (false≢true (sym (parted.1 k d high less) ∙ ap is_lt is))
      by k d high less Greater is _ = is
      by k d high less Equal is (inr same) =
          let here : k ≡ at = omega (arith, high, same) in
          absurd (absent (omega (arith, less, here)) d (ap (λ n. name_cmp (get_or rs n d).name q) (sym here) ∙ is))
      by k d high less Equal is (inl before) =
          let under : name_cmp (get_or rs at d).name q ≡ Less = subst (λ n. name_cmp (get_or rs at d).name n ≡ Less) (names_exact _ _ is) (rise_at rs at k d sorted before less) in
          absurd (false≢true (sym (parted.1 at d (omega arith) (omega (arith, before, less))) ∙ ap is_lt under))

  there : (here : Bool) → passes_at (has_name q) rs at ≡ here → IsThere here
  there true passes = by (cases_lt at (length rs))
    where
      by : (at < length rs) ⊎ (length rs ≤ at) → IsThere true
      by (inr past) = absurd (false≢true (sym (ap (λ o. option_map_or (has_name q) o false) (slice_get_past rs at past)) ∙ passes))
      by (inl h) = (h, λ d. order_of_same (get_or rs at d).name q (sym (ap (λ o. option_map_or (has_name q) o false) (slice_get-get_or rs at d h)) ∙ passes))
  there false passes = λ h d same. false≢true (sym passes ∙ ap (λ o. option_map_or (has_name q) o false) (slice_get-get_or rs at d h) ∙ sym (is_eq-slice_cmp (get_or rs at d).name q) ∙ ap is_eq same)

  by_result : (here : Bool) → IsThere here → MatchOption (then_some here at) (record_named q rs ≡ None) (λ i. (i < length rs) × (slice_get rs i ≡ record_named q rs))
  by_result true is = searched q rs (Ok at) sorted is.0 is.1
  by_result false absent = searched q rs (Err at) sorted bound (λ _. others absent)

  alone_by_result : (here : Bool) → IsThere here → MatchOption (then_some here at) ((j : ℕ) → passes_at (has_name q) rs j ≡ false) (λ i. (j : ℕ) → passes_at (has_name q) rs j ≡ (j == i))
  alone_by_result true is = alone q rs (Ok at) sorted is.0 is.1
  alone_by_result false absent = alone q rs (Err at) sorted bound (λ _. others absent)

  -- what a look-up there gives
  pub looked : MatchOption (then_some (passes_at (has_name q) rs at) at) (record_named q rs ≡ None) (λ i. (i < length rs) × (slice_get rs i ≡ record_named q rs))
  looked = by_result (passes_at (has_name q) rs at) (there (passes_at (has_name q) rs at) refl)

  -- and of all positions it gives the only one
  pub looked_alone : MatchOption (then_some (passes_at (has_name q) rs at) at) ((j : ℕ) → passes_at (has_name q) rs j ≡ false) (λ i. (j : ℕ) → passes_at (has_name q) rs j ≡ (j == i))
  looked_alone = alone_by_result (passes_at (has_name q) rs at) (there (passes_at (has_name q) rs at) refl)

-- the records whose names are below one come first
pub names_parted : (q : List ℕ) (rs : List RecordData) → is_sorted name_cmp (by_name rs) ≡ true → IsPartitionedBy (λ (r : RecordData). is_lt (name_cmp r.name q)) rs
names_parted q rs sorted i j d le h below = at (cases_order i j)
  where
    at : (i ≡ j) ⊎ ((i < j) ⊎ (j < i)) → is_lt (name_cmp (get_or rs i d).name q) ≡ true
    at (inl same) = ap (λ n. is_lt (name_cmp (get_or rs n d).name q)) same ∙ below
    at (inr (inl less)) = ap is_lt (names_total.trans (get_or rs i d).name (get_or rs j d).name q (rise_at rs i j d sorted less h) (less_from_lt _ below))
    at (inr (inr more)) = absurd (omega (arith, le, more))

-- a place that is given where a test holds
pub given_if : (P : ℕ → Type 0) (b : Bool) (at : ℕ) (o : Option ℕ) → o ≡ then_some b at → (b ≡ true → P at) → IfSome o P
given_if P true at o is holds = subst (λ o. IfSome o P) (sym is) (holds refl)
given_if P false at o is holds = subst (λ o. IfSome o P) (sym is) tt
