-- A listing from the rows of pieces that were each walked once.
use Rattle.std.proofs.Common.{◌≡◌, ℕ, List, Result, Ok, Err, IfOk, ap}
use Rattle.wq_record.specs.Seen.{SeenData}
use Rattle.wq_walk.specs.declared.piece.Piece.{Piece}
use Rattle.wq_walk.specs.declared.rows.Rows.{Rows}
use Rattle.wq_walk.specs.Listed.{AreWalks, IsListed, IsPathOf, IsRooted, IsWalked, piece_parts, walked_pieces, walked_rows}
use Rattle.wq_walk.specs.Pieces.{IsSharedOut}
use Rattle.wq_disk.specs.Told.{GivesStat, Has, HasStat}

-- rows of pieces that share out all names, and were each walked once, are a listing
pub listed : {A E : Type 0} (items : A → List SeenData) (says : GivesStat) (has : Has) (root path : List ℕ) (pieces : List Piece) (result : Result A E)
    → IsPathOf root path → IsSharedOut pieces → IfOk result (λ rows. IsWalked says has path (piece_parts pieces) (items rows))
    → IfOk result (λ rows. IsListed says has root (items rows))
listed items says has root path pieces (Ok rows) at shared walked = (path, pieces, at, shared, walked)
listed items says has root path pieces (Err fault) at shared walked = tt

-- the root of a listing was there, if a disk could look at its path
pub rooted : {A E : Type 0} (says : GivesStat) (root path : List ℕ) (result : Result A E)
    → IsPathOf root path → IfOk result (λ _. HasStat says path)
    → IfOk result (λ _. IsRooted says root)
rooted says root path (Ok rows) at there = (path, at, there)
rooted says root path (Err fault) at there = tt

-- rows of pieces that were each walked once
pub walked_all : {A E : Type 0} (items : A → List SeenData) (says : GivesStat) (has : Has) (root : List ℕ) (pieces : List Piece) (walked : List Rows) (result : Result A E)
    → AreWalks says has root walked → walked_pieces walked ≡ pieces → IfOk result (λ rows. items rows ≡ walked_rows walked)
    → IfOk result (λ rows. IsWalked says has root (piece_parts pieces) (items rows))
walked_all items says has root pieces walked (Ok rows) walks are is = (walked, walks, ap piece_parts are, is)
walked_all items says has root pieces walked (Err fault) walks are is = tt

-- what holds anyway holds of a result
pub anyway : {A E : Type 0} (result : Result A E) (P : Type 0) → P → IfOk result (λ _. P)
anyway (Ok rows) P p = p
anyway (Err fault) P p = tt
