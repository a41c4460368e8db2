-- The flags of the numbers of suffixes.
use Rattle.std.proofs.Common.{◌≡◌, ◌≢◌, ℕ, ◌+◌, ◌<◌, ◌⊎◌, inl, inr, Bool, true, false, List, [], length, get_or, set, slice_get, Some, sym, ap, ◌∙◌, arith, get_or-set_same, get_or-set_other}
use Rattle.std.proofs.lemmas.Bool.{cases_eq}
use Rattle.std.proofs.lemmas.List.{length-map}
use Rattle.std.proofs.lemmas.Option.{slice_get_within, get_or_from_slice_get}
use Rattle.wq_base.specs.Name.{suffix_of}
use Rattle.wq_record.specs.RecordData.{RecordData}
use Rattle.wq_view.specs.declared.suffix.First.{First}
use Rattle.wq_view.specs.Suffix.{AreFlagged, AreNumberFlags, ArePlaces, IsFlagged, IsNumber, IsNumbered, first_places, folded_suffix, folded_suffixes, is_folded_of, is_one_of, max_numbered, suffix_at}
use Rattle.wq_view.proofs.SuffixNumbers.{place_in, place_is, suffix_there}

-- the flag of a record's number
module _ (texts : List (List ℕ)) (rs : List RecordData) (places numbers : List ℕ) (flags : List Bool) (table : IsNumbered (folded_suffixes rs) places numbers) (fit : AreNumberFlags texts (folded_suffixes rs) places flags) where
  one_flagged : (i : ℕ) (r : RecordData) → slice_get rs i ≡ Some r → IsFlagged texts flags (get_or numbers i 0) r
  one_flagged i r is = by (table.right i (omega (arith, low, length-map rs folded_suffix)))
    where
      low : i < length rs
      low = slice_get_within rs i r is

      suffix : get_or (folded_suffixes rs) i [] ≡ folded_suffix r
      suffix = suffix_there rs i r low (sym (get_or_from_slice_get rs i r r is))

      by : IsNumber (folded_suffixes rs) places (get_or numbers i 0) (get_or (folded_suffixes rs) i []) → IsFlagged texts flags (get_or numbers i 0) r
      by (inl there) = inl (fit.each (get_or numbers i 0) there.0 ∙ ap (is_folded_of texts) (there.1 ∙ suffix))
      by (inr full) = inr (full.1, ap (λ n. get_or flags n false) full.1 ∙ fit.last)

  pub flagged_by : AreFlagged texts flags numbers rs
  flagged_by = record {
    each = omega (arith, table.each, length-map rs folded_suffix);
    right = one_flagged;
  }

-- one flag more
module _ (texts : List (List ℕ)) (rs : List RecordData) (firsts : List First) (flags now : List Bool) (k : ℕ) (flag : Bool) (is : now ≡ set flags k flag) where
  pub one_more_set : (d : First) (r : RecordData) → ArePlaces (length rs) (first_places firsts) → k < length firsts → k < length flags → r ≡ get_or rs (get_or firsts k d).at r → flag ≡ is_one_of texts (suffix_of r.name) → ((n : ℕ) → n < k → get_or flags n false ≡ is_folded_of texts (suffix_at (folded_suffixes rs) (first_places firsts) n)) → (n : ℕ) → n < k + 1 → get_or now n false ≡ is_folded_of texts (suffix_at (folded_suffixes rs) (first_places firsts) n)
  one_more_set d r fits low inside there sought before n less = by (cases_eq n k)
    where
      here : get_or (folded_suffixes rs) (get_or firsts k d).at [] ≡ folded_suffix r
      here = suffix_there rs (get_or firsts k d).at r (place_in (length rs) firsts k d fits low) there

      by : (n ≡ k) ⊎ (n ≢ k) → get_or now n false ≡ is_folded_of texts (suffix_at (folded_suffixes rs) (first_places firsts) n)
      by (inl same) =
          ap (λ l. get_or l n false) is
          ∙ ap (λ m. get_or (set flags k flag) m false) same
          ∙ get_or-set_same flags k flag false inside
          ∙ sought
          ∙ ap (is_folded_of texts) (sym (ap (λ m. get_or (folded_suffixes rs) (get_or (first_places firsts) m 0) []) same ∙ ap (λ m. get_or (folded_suffixes rs) m []) (place_is firsts k d low) ∙ here))
      by (inr other) = ap (λ l. get_or l n false) is ∙ get_or-set_other flags k n flag false other ∙ before n (omega (arith, less, other))

  pub last_kept : k < max_numbered → get_or flags max_numbered false ≡ true → get_or now max_numbered false ≡ true
  last_kept low last = ap (λ l. get_or l max_numbered false) is ∙ get_or-set_other flags k max_numbered flag false (λ e. omega (arith, e, low)) ∙ last
