-- A listing of a tree, which joins the walks of its parts. No public document defines it.
use Rattle.std.specs.Prelude.{◌≡◌, ◌⊎◌, ℕ, List, [], ◌∷◌, ◌++◌, Some, map, slice_get}
use Rattle.std.specs.Prelude.{Result, Vec, IfOk, IfErr, IsTrue}
use Rattle.std.specs.List.{All, flat_map}
use Rattle.std.specs.Str.{byte}
use Rattle.std.specs.declared.alloc.Global.{Global}
use Rattle.wq_patch.specs.Tree.{is_of_device}
use Rattle.wq_patch.specs.declared.tree.TreeFault.{TreeFault}
use Rattle.wq_patch.specs.declared.tree.TreeFault.TheVariants.{Unreadable}
use Rattle.wq_record.specs.RecordData.{RecordData}
use Rattle.wq_record.specs.Seen.{SeenData}
use Rattle.wq_disk.specs.declared.part.Part.{Part}
use Rattle.wq_walk.specs.declared.piece.Piece.{Piece}
use Rattle.wq_walk.specs.declared.rows.Rows.{Rows}
use Rattle.wq_walk.specs.declared.walks.Walked.{Walked}
use Rattle.wq_walk.specs.Found.{found_rows}
use Rattle.wq_walk.specs.Pieces.{IsSharedOut}
use Rattle.wq_walk.specs.Tiles.{piece_records}
use Rattle.wq_disk.specs.Told.{FailsAt, GivesStat, Has, HasStat, IsRootFault, IsUnreadable}
use Rattle.wq_walk.specs.Walk.{IsWalk}

-- the parts of pieces
abbrev pub piece_parts : List Piece → List Part
piece_parts pieces = map (λ piece. piece.part) pieces

-- the pieces of these rows
abbrev pub walked_pieces : List Rows → List Piece
walked_pieces walked = map (λ rows. rows.piece) walked

-- the parts of these rows
abbrev pub walked_parts : List Rows → List Part
walked_parts walked = piece_parts (walked_pieces walked)

-- the rows that were found, one piece after the other
abbrev pub walked_rows : List Rows → List SeenData
walked_rows walked = flat_map (λ rows. found_rows rows.found) walked

-- the records of all pieces, one piece after the other
abbrev pub records_of_pieces : List Rows → List RecordData
records_of_pieces walked = flat_map (λ rows. piece_records rows.piece) walked

-- rows that are each those of a walk of their part
abbrev pub AreWalks : GivesStat → Has → List ℕ → List Rows → Type 0
AreWalks says has root walked =
    All (λ rows. IsWalk says has root rows.piece.part (found_rows rows.found)) walked

-- the rows of a walk of the piece at a place
unfoldable pub IsWalkOfPiece : GivesStat → Has → List ℕ → List Piece → ℕ → Rows → Type 0
IsWalkOfPiece says has root pieces place rows =
    IsWalk says has root rows.piece.part (found_rows rows.found)
    × (slice_get pieces place ≡ Some rows.piece)

-- rows that are each those of a walk of the piece at their place
unfoldable pub AreOfPieces : GivesStat → Has → List ℕ → List Piece → List Walked → Type 0
AreOfPieces says has root pieces list =
    All (λ walked. IsWalkOfPiece says has root pieces walked.place walked.rows) list

-- pieces that a thread drew were each walked, or a walk failed
unfoldable pub IsDrawn : GivesStat → Has → FailsAt → List ℕ → List Piece
    → Result (Vec Walked Global) TreeFault → Type 0
IsDrawn says has fails root pieces result =
    IfOk result (λ list. AreOfPieces says has root pieces list.items)
    × IfErr result (IsRootFault says has fails root)

-- rows of a tree in which each of these parts was walked once, in this order
abbrev pub IsWalked : GivesStat → Has → List ℕ → List Part → List SeenData → Type 0
IsWalked says has root parts rows =
    (walked : List Rows) × AreWalks says has root walked × (walked_parts walked ≡ parts)
    × (rows ≡ walked_rows walked)

-- the path of a root, like that of a directory: a slash may have been added to it
abbrev pub IsPathOf : List ℕ → List ℕ → Type 0
IsPathOf root path = (path ≡ root) ⊎ (path ≡ root ++ (byte "/" ∷ []))

-- a listing of the tree below a root, from parts that share out all names and were each walked once
abbrev pub IsListed : GivesStat → Has → List ℕ → List SeenData → Type 0
IsListed says has root rows =
    (path : List ℕ) × (pieces : List Piece) × IsPathOf root path × IsSharedOut pieces
    × IsWalked says has path (piece_parts pieces) rows

-- the root of a listing was still there at a look after its walks
abbrev pub IsRooted : GivesStat → List ℕ → Type 0
IsRooted says root = (path : List ℕ) × IsPathOf root path × HasStat says path

-- a fault of a listing: it is one of the device only if the root could not be read, or a call of
-- the system failed so at some path
abbrev pub IsUnread : GivesStat → Has → FailsAt → List ℕ → TreeFault → Type 0
IsUnread says has fails root fault =
    IsTrue (is_of_device fault)
    → ((fault ≡ Unreadable) × (path : List ℕ) × IsPathOf root path × IsUnreadable says has path)
    ⊎ ((path : List ℕ) × fails fault path)
