-- The result of one pass over a tree of files: a finite map from names to stats, and the second of
-- the pass. A list of rows makes a pass, or its first fault refuses it.
use Rattle.std.specs.Prelude.{ℕ, ℤ, Bool, true, false, ◌≤◌, IsTrue, nat_lt, not, if◌then◌else◌, List, [], ◌∷◌, length, map, bytes_eq, refl, Option, Some, None}
use Rattle.std.specs.Coded.{Coded, code_by, coded×, coded_ℕ, coded_ℤ, coded_list}
use Rattle.std.specs.List.{list_any, list_all}
use Rattle.std.specs.FinMap.{FinMap, code, from_entries, is_sorted}
use Rattle.wq_view.specs.declared.listing.PassFault.{PassFault}
use Rattle.wq_view.specs.declared.listing.PassFault.TheVariants.{BadName, NameTwice, TooManyRows, OutOfRange}
use Rattle.wq_view.specs.Limit.{max_listing_rows}
use Rattle.wq_record.specs.Name.{is_valid_name, name_cmp}
use Rattle.wq_record.specs.Seen.{SeenData, Stat, stat_code, stat_of, entry_of, is_count, is_in_range, is_lawful_row}

-- the stats that a pass saw, by name, and its second
pub record PassData : Type 0 where
  pub stats : FinMap name_cmp Stat
  -- in seconds of the Unix epoch
  pub second : ℤ

-- a listing as the pair of its parts
abbrev pub pass_code : Coded PassData
pass_code =
    code_by (FinMap name_cmp Stat × ℤ) (coded× (code (coded_list coded_ℕ) stat_code) coded_ℤ)
    (λ pass. (pass.stats, pass.second))
    (λ (stats, second). record { stats = stats; second = second }) (λ _. refl)

-- the listing of rows with different names
abbrev pub listing_of : List SeenData → ℤ → PassData
listing_of rows second = record { stats = from_entries (map entry_of rows); second = second }

-- the first fault of rows, row by row, if rows with these names come before them
abbrev pub row_fault : List (List ℕ) → List SeenData → Option PassFault
row_fault before [] = None
row_fault before (row ∷ rows) =
    if not (is_valid_name row.name) then Some BadName
    else if not (is_in_range (stat_of row)) then Some OutOfRange
    else if list_any (bytes_eq row.name) before then Some NameTwice
    else row_fault (row.name ∷ before) rows

-- the first fault of a listing: of its length, of its second, and then of its rows
abbrev pub listing_fault : List SeenData → ℤ → Option PassFault
listing_fault rows second =
    if nat_lt max_listing_rows (length rows) then Some TooManyRows
    else if not (is_count second) then Some OutOfRange
    else row_fault [] rows

-- whether a fault is one of a whole listing, and not of a single row. Such a fault is that there
-- are too many rows, the second is out of range, or a name comes twice
abbrev pub is_of_whole : PassFault → Bool
is_of_whole TooManyRows = true
is_of_whole OutOfRange = true
is_of_whole NameTwice = true
is_of_whole _ = false

-- the names of rows
abbrev pub names_of : List SeenData → List (List ℕ)
names_of = map (λ row. row.name)

-- the rows of a pass: in the byte order of their names, each name once, each row lawful
pub record IsPass (rows : List SeenData) (at : ℤ) : Type 0 where
  pub rise : IsTrue (is_sorted name_cmp (map entry_of rows))
  pub lawful : IsTrue (list_all is_lawful_row rows)
  pub count : length rows ≤ max_listing_rows
  pub second : IsTrue (is_count at)
