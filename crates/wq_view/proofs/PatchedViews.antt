-- The view after a pass whose rows differ by patches from its records.
use Rattle.std.proofs.Common.{◌≡◌, ◌≤◌, ℕ, ℤ, true, List, [], ◌∷◌, ◌++◌, map, length, None, Some, false, nat_lt, arith, ◌↔◌, refl, sym, ap, subst, ◌∙◌}
use Rattle.std.proofs.Math.Dec.{T}
use Rattle.std.specs.FinMap.{entries, entries-from_sorted, is_sorted}
use Rattle.std.specs.List.{list_all}
use Rattle.std.proofs.lemmas.Bool.Decides.{nat_tests}
use Rattle.std.proofs.lemmas.List.Folds.{list_all-append}
use Rattle.std.proofs.lemmas.List.Sorted.{IsPermutation-refl}
use Rattle.std.proofs.lemmas.Bool.{and_parts}
use Rattle.wq_record.specs.Name.{name_cmp}
use Rattle.wq_record.specs.RecordData.{RecordData}
use Rattle.wq_record.specs.Seen.{SeenData, entry_of, is_count, is_lawful_row}
use Rattle.wq_view.specs.SeenRows.{seen_rows}
use Rattle.wq_view.specs.History.{History, last_stats}
use Rattle.wq_view.specs.Limit.{max_listing_rows}
use Rattle.wq_view.specs.Listing.{listing_fault, listing_of}
use Rattle.wq_view.specs.Merge.{pairs_of, records_after, shows}
use Rattle.wq_view.specs.Moves.{MovesData, no_moves, with_pairs}
use Rattle.wq_view.specs.Patch.{patched}
use Rattle.wq_view.specs.Patching.{FitFrom, has_lawful_rows, kept_by, left_by, patched_after, patched_moves, patched_shows}
use Rattle.wq_view.specs.View.{IsViewOf, NamesRise, ViewData}
use Rattle.wq_view.specs.declared.listing.PassFault.TheVariants.{OutOfRange}
use Rattle.wq_view.specs.declared.patch.Patch.{Patch}
use Rattle.wq_view.proofs.Faults.{fault_when_lawful}
use Rattle.wq_view.proofs.Listings.{sorted_listing}
use Rattle.wq_view.proofs.Patches.{after_patches, moves_patches, rows_rise, shows_patches}
use Rattle.wq_view.proofs.Sorting.{distinct_from_sorted}
use Rattle.wq_view.proofs.ViewSteps.{shows_last}

-- the rows of the patches are lawful if all rows are
pub lawful_patches : (ps : List Patch) (records : List RecordData) → list_all is_lawful_row (patched records ps) ≡ true → list_all has_lawful_rows ps ≡ true
lawful_patches [] records lawful = refl
lawful_patches (p ∷ ps) records lawful =
    let rest = patched (left_by p records) ps in
    let first = and_parts (list_all is_lawful_row (seen_rows (kept_by p records))) (list_all is_lawful_row (p.rows.items ++ rest)) (sym (list_all-append is_lawful_row (seen_rows (kept_by p records)) (p.rows.items ++ rest)) ∙ lawful) in
    let parts = and_parts (list_all is_lawful_row p.rows.items) (list_all is_lawful_row rest) (sym (list_all-append is_lawful_row p.rows.items rest) ∙ first.1) in
    rw parts.0 (lawful_patches ps (left_by p records) parts.1)

-- the entries of the listing of rows that rise
pub listing_entries : (rows : List SeenData) (second : ℤ) → is_sorted name_cmp (map entry_of rows) ≡ true → entries (listing_of rows second).stats ≡ map entry_of rows
listing_entries rows second sorted =
    ap entries (sym (sorted_listing rows rows (IsPermutation-refl rows) (distinct_from_sorted rows sorted) sorted))
    ∙ entries-from_sorted name_cmp (map entry_of rows) (subst T (sym sorted) tt)

module _ (records : List RecordData) (patches : List Patch) (rise : NamesRise records) (fit : FitFrom records 0 [] patches) where
  -- the rows rise
  pub patched_rise : is_sorted name_cmp (map entry_of (patched records patches)) ≡ true
  patched_rise = rows_rise records rise patches 0 [] fit tt

  -- the pass has no fault
  pub no_fault : (second : ℤ) → is_count second ≡ true → list_all is_lawful_row (patched records patches) ≡ true → length (patched records patches) ≤ max_listing_rows → listing_fault (patched records patches) second ≡ None
  no_fault second in_range lawful few = fault_when_lawful (patched records patches) second true few in_range lawful (λ _. distinct_from_sorted (patched records patches) patched_rise, λ _. refl)

  -- and it has one if the second is out of range
  pub fault_of_time : (second : ℤ) → is_count second ≡ false → length (patched records patches) ≤ max_listing_rows → listing_fault (patched records patches) second ≡ Some OutOfRange
  fault_of_time second out_of_range few =
      let short_test : nat_lt max_listing_rows (length (patched records patches)) ≡ false = grind (arith, nat_tests) in
      rw (short_test, out_of_range) refl

  -- whether the pass saw just the same as the last one
  pub patches_show : (history : History) (view : ViewData) (second : ℤ) → view.records ≡ records → IsViewOf history view → (patched_shows records patches ≡ true) ↔ (last_stats history ≡ (listing_of (patched records patches) second).stats)
  patches_show history view second is is_view =
      let rows = patched records patches in
      let known = shows_last history view (listing_of rows second) rows is_view (listing_entries rows second patched_rise) patched_rise in
      let same : shows view.records rows ≡ patched_shows records patches = ap (λ rs. shows rs rows) is ∙ shows_patches records rise patches 0 [] fit in
      (λ e. known.0 (same ∙ e), λ e. sym same ∙ known.1 e)

module _ (all : List RecordData) (patches : List Patch) (rise : NamesRise all) (fit : FitFrom all 0 [] patches) (known : List RecordData) (is : known ≡ all) where
  -- the moves of these records are those of the records and the rows
  pub moves_are : (moves : MovesData) → moves ≡ patched_moves no_moves known patches → moves ≡ with_pairs (pairs_of all (patched all patches)) no_moves
  moves_are moves e = e ∙ ap (λ rs. patched_moves no_moves rs patches) is ∙ sym (moves_patches all rise patches 0 [] no_moves fit)

  -- and the records after the pass too
  pub made_are : (tick : ℕ) (second given : ℤ) (made : List RecordData) → given ≡ second → made ≡ patched_after tick given known patches → made ≡ records_after tick second all (patched all patches)
  made_are tick second given made e made_is =
      made_is
      ∙ ap (λ z. patched_after tick z known patches) e
      ∙ ap (λ rs. patched_after tick second rs patches) is
      ∙ sym (after_patches all rise tick second patches 0 [] fit)
