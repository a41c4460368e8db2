-- The patch of a pass that says nothing by a view makes that pass over each view.
use Rattle.std.proofs.Common.{◌≡◌, ◌≤◌, ◌+◌, ℤ, true, List, [], ◌∷◌, ◌++◌, map, take, drop, length, append-nil, sym, refl, ap, subst, ◌∙◌, arith}
use Rattle.std.proofs.Math.Dec.{T}
use Rattle.std.specs.FinMap.{entries-from_sorted, from_entries, from_sorted, is_sorted, len, len-entries}
use Rattle.std.proofs.lemmas.List.{drop_all, length-map}
use Rattle.std.proofs.lemmas.List.Sorted.{IsPermutation-refl}
use Rattle.wq_record.specs.Name.{name_cmp}
use Rattle.wq_record.specs.RecordData.{RecordData}
use Rattle.wq_record.specs.Seen.{SeenData, entry_of, is_lawful_row}
use Rattle.std.specs.List.{list_all}
use Rattle.wq_view.specs.Change.{MakePass, pass_by}
use Rattle.wq_view.specs.Limit.{max_records}
use Rattle.wq_view.specs.Listing.{IsPass, PassData}
use Rattle.wq_view.specs.Patch.{ReplacesAll, patched}
use Rattle.wq_view.specs.Patching.{AreBelow, FitFrom, record_name, row_name}
use Rattle.wq_view.specs.SeenRows.{seen_rows}
use Rattle.wq_view.specs.declared.patch.Patch.{Patch}
use Rattle.wq_view.proofs.Listings.{sorted_listing}
use Rattle.wq_view.proofs.Sorting.{distinct_from_sorted}

-- rows are below no record
below_none : (rows : List SeenData) → AreBelow row_name record_name rows []
below_none [] = tt
below_none (row ∷ rows) = (tt, below_none rows)

module _ (records : List RecordData) (p : Patch) (whole : ReplacesAll p.kept p.replaced) (few : length records ≤ max_records) where
  start : 0 + p.kept ≡ 0
  start = omega (arith, whole.none)

  none_left : drop p.replaced records ≡ []
  none_left = drop_all p.replaced records (omega (arith, whole.all, few))

  none_behind : drop (0 + p.kept + p.replaced) records ≡ []
  none_behind = drop_all (0 + p.kept + p.replaced) records (omega (arith, whole.all, few))

  -- its rows are all
  pub whole_rows : patched records (p ∷ []) ≡ p.rows.items
  whole_rows =
      ap (λ n. seen_rows (take n records) ++ (p.rows.items ++ seen_rows (drop p.replaced (drop n records)))) whole.none
      ∙ ap (λ rs. p.rows.items ++ seen_rows rs) none_left
      ∙ append-nil p.rows.items

  -- it fits
  whole_fits : (second : ℤ) → IsPass p.rows.items second → FitFrom records 0 [] (p ∷ [])
  whole_fits second is = (
    record {
      rise = is.rise;
      after_rows = tt;
      after_records = subst (λ n. AreBelow record_name row_name (take n records) p.rows.items) (sym start) tt;
      before_records = subst (AreBelow row_name record_name p.rows.items) (sym none_behind) (below_none p.rows.items);
    },
    tt,
  )

  pub whole_makes : (second : ℤ) → IsPass p.rows.items second → MakePass records (p ∷ [])
  whole_makes second is = record { fit = whole_fits second is; lawful = ap (list_all is_lawful_row) whole_rows ∙ is.lawful }

  -- it makes the pass
  pub whole_pass : (second given : ℤ) → IsPass p.rows.items second → given ≡ second → pass_by records (p ∷ []) given ≡ record { stats = from_sorted (map entry_of p.rows.items); second = second }
  whole_pass second given is same =
      ap (λ z. pass_by records (p ∷ []) z) same
      ∙ ap (λ rows. record { stats = from_entries (map entry_of rows); second = second }) whole_rows
      ∙ ap (λ m. record { stats = m; second = second }) (sym (sorted_listing p.rows.items p.rows.items (IsPermutation-refl p.rows.items) (distinct_from_sorted p.rows.items is.rise) is.rise))

-- a pass has as many files as rows
pub files_are : (rows : List SeenData) → is_sorted name_cmp (map entry_of rows) ≡ true → len (from_sorted {R = name_cmp} (map entry_of rows)) ≡ length rows
files_are rows sorted = len-entries (from_sorted (map entry_of rows)) ∙ ap length (entries-from_sorted name_cmp (map entry_of rows) (subst T (sym sorted) tt)) ∙ length-map rows entry_of
