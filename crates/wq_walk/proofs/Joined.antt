-- The patches of pieces, one piece after the other.
use Rattle.std.proofs.Common.{◌≡◌, ◌++◌, ◌∷◌, [], ℕ, List, append_assoc, refl, ap, ◌∙◌}
use Rattle.std.specs.List.{flat_map}
use Rattle.wq_record.specs.RecordData.{RecordData}
use Rattle.wq_record.specs.Seen.{SeenData}
use Rattle.wq_patch.specs.PatchMaker.{IsJoined, IsJoinedTo}
use Rattle.wq_view.specs.Patch.{patched}
use Rattle.wq_view.specs.declared.patch.Patch.{Patch}
use Rattle.wq_walk.specs.declared.rows.Rows.{Rows}
use Rattle.wq_walk.specs.Found.{found_rows}
use Rattle.wq_walk.specs.Listed.{records_of_pieces, walked_pieces, walked_rows}
use Rattle.wq_walk.specs.Tiles.{AreTiles, piece_records}

-- the patches of one piece alone
pub one_piece : (records : List RecordData) (found : List SeenData) (after : List Patch) (left : ℕ) → IsJoinedTo records found 0 [] after left → patched records after ≡ found
unfolding IsJoinedTo
one_piece records found after left is = (is [] (tt, refl)).1

-- the patches of one piece more
pub piece_more : (records : List RecordData) (rows : List SeenData) (piece : Rows) (pieces : List Rows) (before after : List Patch) (kept left : ℕ)
    → IsJoinedTo (piece_records piece.piece) (found_rows piece.found) kept before after left
    → ((first : List RecordData) × IsJoined first before kept × (first ++ records_of_pieces (piece ∷ pieces) ≡ records) × (patched first before ++ walked_rows (piece ∷ pieces) ≡ rows))
    → ((first : List RecordData) × IsJoined first after left × (first ++ records_of_pieces pieces ≡ records) × (patched first after ++ walked_rows pieces ≡ rows))
unfolding IsJoinedTo
piece_more records rows piece pieces before after kept left is (first, joined, all, found) =
    let of_piece = piece_records piece.piece in
    let next = is first joined in (
      first ++ of_piece,
      next.0,
      append_assoc first of_piece (records_of_pieces pieces) ∙ all,
      ap (λ front. front ++ walked_rows pieces) next.1 ∙ append_assoc (patched first before) (found_rows piece.found) (walked_rows pieces) ∙ found,
    )

-- the records of all pieces are those of the view
pub records_tile : (records : List RecordData) (walked : List Rows) → AreTiles records (walked_pieces walked) → records_of_pieces walked ≡ records
records_tile records walked are = at walked ∙ are
  where
    at : (walked : List Rows) → records_of_pieces walked ≡ flat_map piece_records (walked_pieces walked)
    at [] = refl
    at (rows ∷ walked) = ap (λ rest. piece_records rows.piece ++ rest) (at walked)
