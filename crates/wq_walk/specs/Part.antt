-- The listings of a part of a tree. No public document defines it.
use Rattle.std.specs.Prelude.{Bool, List, ◌≤◌, length, IsTrue, None}
use Rattle.std.specs.List.{list_all}
use Rattle.wq_disk.specs.declared.part.Part.{Part}
use Rattle.wq_disk.specs.Part.{is_in}
use Rattle.wq_record.specs.Seen.{SeenData, is_lawful_row}
use Rattle.wq_view.specs.Limit.{max_listing_rows}

-- the whole of a tree
abbrev pub whole_part : Part
whole_part = record { from = None; below = None }

-- whether the name of a row is in a part
abbrev pub is_row_in : Part → SeenData → Bool
is_row_in part row = is_in part row.name

-- at most 1,000,000 rows that a pass takes, with names in a part
abbrev pub IsListing : Part → List SeenData → Type 0
IsListing part rows =
    IsTrue (list_all is_lawful_row rows)
    × (length rows ≤ max_listing_rows)
    × IsTrue (list_all (is_row_in part) rows)
