-- The map of rows does not depend on their order.
use Rattle.std.proofs.Common.{◌≡◌, ℕ, ℤ, zero, suc, ◌≤◌, true, false, cond, List, [], ◌∷◌, map, length, bytes_eq, Option, Some, None, IsPermutation, Contains, sym, refl, ap, subst, ◌∙◌, arith}
use Rattle.std.proofs.Math.Dec.{T}
use Rattle.std.specs.Ordering.{eq_by_cmp, is_eq}
use Rattle.std.specs.Cmp.{tied_itself}
use Rattle.std.specs.Cmp.Lexicographic.{texts_ties}
use Rattle.std.specs.FinMap.{find, is_sorted, from_sorted, from_entries, get-from_sorted, get-from_entries, same_map}
use Rattle.std.specs.List.{IsDistinct, AllByRecursion, list_all}
use Rattle.std.proofs.lemmas.List.Sorted.{All-permutation, Contains-permutation, length_permutation, IsPermutation-sym, IsPermutation-map}
use Rattle.std.proofs.lemmas.List.Sums.{AllPass-from_list_all, list_all-from_AllPass}
use Rattle.std.proofs.lemmas.Map.Keys.{IsDistinct-IsPermutation}
use Rattle.std.proofs.lemmas.Option.{same_Some}
use Rattle.wq_record.specs.Seen.{SeenData, Stat, stat_of, entry_of, is_lawful_row, is_count}
use Rattle.wq_record.specs.Name.{name_cmp}
use Rattle.wq_view.specs.Listing.{names_of, IsPass}
use Rattle.wq_view.specs.Limit.{max_listing_rows}
use Rattle.wq_view.proofs.NameOrder.{names_total, names_exact, same_name}
use Rattle.wq_view.proofs.Faults.{same_name_flips}

-- names that tie in byte order are the same
pub tie_is_same : (a b : List ℕ) → eq_by_cmp name_cmp a b ≡ bytes_eq a b
tie_is_same a b = sym (texts_ties a b)

-- a name ties with itself
pub name_ties_itself : (a : List ℕ) → bytes_eq a a ≡ true
name_ties_itself a = texts_ties a a ∙ ap is_eq (tied_itself names_total a)

apart_in : (x : List ℕ) (rows : List SeenData) (row : SeenData) → AllByRecursion (λ y. bytes_eq x y ≡ false) (names_of rows) → Contains rows row → bytes_eq x row.name ≡ false
apart_in x [] row all (k, h, e) = absurd (omega arith)
apart_in x (r ∷ rows) row all (zero, h, e) = subst (λ (z : SeenData). bytes_eq x z.name ≡ false) e all.0
apart_in x (r ∷ rows) row all (suc k, h, e) = apart_in x rows row all.1 (k, omega arith, e)

-- among rows with distinct names, a name finds its row
found_in : (rows : List SeenData) (row : SeenData) → IsDistinct bytes_eq (names_of rows) → Contains rows row → find name_cmp row.name (map entry_of rows) ≡ Some (stat_of row)
unfolding IsDistinct
found_in [] row distinct (k, h, e) = absurd (omega arith)
found_in (r ∷ rows) row distinct (zero, h, e) = subst (λ (z : SeenData). find name_cmp z.name (map entry_of (r ∷ rows)) ≡ Some (stat_of z)) e (rw (tie_is_same r.name r.name, name_ties_itself r.name) refl)
found_in (r ∷ rows) row distinct (suc k, h, e) =
    let rest : Contains rows row = (k, omega arith, e) in
    rw (tie_is_same row.name r.name, same_name_flips row.name r.name, apart_in r.name rows row distinct.0 rest) (found_in rows row distinct.1 rest)

-- a name finds a row of the list
in_found : (q : List ℕ) (s : Stat) (rows : List SeenData) → find name_cmp q (map entry_of rows) ≡ Some s → (row : SeenData) × Contains rows row × (row.name ≡ q) × (stat_of row ≡ s)
in_found q s [] e = absurd (cc)
in_found q s (r ∷ rows) e = elim (eq_by_cmp name_cmp q r.name) as (λ b. eq_by_cmp name_cmp q r.name ≡ b → cond b (Some (stat_of r)) (find name_cmp q (map entry_of rows)) ≡ Some s → (row : SeenData) × Contains (r ∷ rows) row × (row.name ≡ q) × (stat_of row ≡ s)) [
  | true ↦ λ ties is. (r, (zero, omega arith, refl), sym (same_name q r.name (sym (tie_is_same q r.name) ∙ ties)), same_Some _ _ is)
  | false ↦ λ apart is.
      let rest = in_found q s rows is in
      (rest.0, (suc rest.1.0, omega (arith, rest.1.1), rest.1.2), rest.2, rest.3)
] refl e

-- a name finds the same in rows in another order
found_alike : (old new : List SeenData) → IsPermutation old new → IsDistinct bytes_eq (names_of new) → (q : List ℕ) (s : Stat) → find name_cmp q (map entry_of old) ≡ Some s → find name_cmp q (map entry_of new) ≡ Some s
found_alike old new moved distinct q s e =
    let at = in_found q s old e in
    ap (λ n. find name_cmp n (map entry_of new)) (sym at.2) ∙ found_in new at.0 distinct (Contains-permutation old new at.0 moved at.1) ∙ ap Some at.3

same_found : (old new : List SeenData) → IsPermutation old new → IsDistinct bytes_eq (names_of old) → IsDistinct bytes_eq (names_of new) → (q : List ℕ) → find name_cmp q (map entry_of new) ≡ find name_cmp q (map entry_of old)
same_found old new moved old_distinct new_distinct q = at (find name_cmp q (map entry_of old)) (find name_cmp q (map entry_of new)) refl refl
  where
    at : (a b : Option Stat) → find name_cmp q (map entry_of old) ≡ a → find name_cmp q (map entry_of new) ≡ b → b ≡ a
    at (Some s) b e f = sym f ∙ found_alike old new moved new_distinct q s e
    at None (Some s) e f = sym (found_alike new old (IsPermutation-sym _ _ moved) old_distinct q s f) ∙ e
    at None None e f = refl

-- sorted rows make the same pass as before the sort
pub sorted_listing : (old new : List SeenData) → IsPermutation old new → IsDistinct bytes_eq (names_of old) → is_sorted name_cmp (map entry_of new) ≡ true → from_sorted {R = name_cmp} (map entry_of new) ≡ from_entries (map entry_of old)
sorted_listing old new moved distinct sorted = same_map names_total names_exact _ _ (λ q.
    get-from_sorted name_cmp (map entry_of new) q (subst T (sym sorted) tt)
    ∙ same_found old new moved distinct (IsDistinct-IsPermutation bytes_eq same_name_flips _ _ (IsPermutation-map (λ (row : SeenData). row.name) old new moved) distinct) q
    ∙ sym (get-from_entries names_total (map entry_of old) q))

-- lawful rows are lawful in another order
lawful_moved : (old new : List SeenData) → IsPermutation old new → list_all is_lawful_row old ≡ true → list_all is_lawful_row new ≡ true
lawful_moved old new moved lawful = list_all-from_AllPass is_lawful_row new (All-permutation (λ row. is_lawful_row row ≡ true) old new moved (AllPass-from_list_all is_lawful_row old lawful))

-- the rows of a pass are lawful, and in order
pub is_pass : (old new : List SeenData) (second : ℤ) → IsPermutation old new → length old ≤ max_listing_rows → list_all is_lawful_row old ≡ true → is_count second ≡ true → is_sorted name_cmp (map entry_of new) ≡ true → IsPass new second
is_pass old new second moved short lawful in_range sorted = record {
  rise = sorted;
  lawful = lawful_moved old new moved lawful;
  count = omega (arith, length_permutation old new moved);
  second = in_range;
}
