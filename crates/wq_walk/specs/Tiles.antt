-- The records of the last view in the pieces of a tree: each is in one piece. No public document
-- defines it.
use Rattle.std.specs.Prelude.{◌≡◌, List, [], take}
use Rattle.std.specs.List.{flat_map}
use Rattle.wq_record.specs.RecordData.{RecordData}
use Rattle.wq_view.specs.Records.{records_left}
use Rattle.wq_walk.specs.declared.piece.CutNames.{CutNames}
use Rattle.wq_walk.specs.declared.piece.CutNames.TheVariants.{First, Last}
use Rattle.wq_walk.specs.declared.piece.Piece.{Piece}

-- the records of a piece
abbrev pub piece_records : Piece → List RecordData
piece_records piece = take piece.count (records_left piece.records)

-- the records of pieces are these, one after the other
abbrev pub AreTiles : List RecordData → List Piece → Type 0
AreTiles records pieces = flat_map piece_records pieces ≡ records

-- the records of the view at whose names a tree is cut, if it has one
abbrev pub cut_records : CutNames → List RecordData
cut_records (Last view) = view.now.records
cut_records (First names) = []
