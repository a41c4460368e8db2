-- The files of a piece that a walk found so far. No public document defines it.
use Rattle.std.specs.Prelude.{◌≡◌, List}
use Rattle.wq_patch.specs.Again.{AgainData}
use Rattle.wq_record.specs.Seen.{SeenData}
use Rattle.wq_walk.specs.declared.piece.Piece.{Piece}
use Rattle.wq_walk.specs.Tiles.{piece_records}

-- the rows of the files that were found
abbrev pub found_rows : AgainData → List SeenData
found_rows found = found.found

-- the files are those of a piece's records
abbrev pub IsFoundOf : Piece → AgainData → Type 0
IsFoundOf piece found = found.records ≡ piece_records piece
