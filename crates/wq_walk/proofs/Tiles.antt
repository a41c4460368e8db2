-- The records of the pieces of a tree, one piece after the other.
use Rattle.std.proofs.Common.{◌≡◌, ◌+◌, ◌-◌, ◌≤◌, ℕ, List, [], ◌∷◌, ◌++◌, take, drop, length, sym, ap, ◌∙◌, arith}
use Rattle.std.proofs.Math.Seq.{drop-nil, take-add}
use Rattle.std.proofs.lemmas.Grind.{flat_map-append}
use Rattle.std.proofs.lemmas.List.{append-nil, length-drop, take-append-drop, take_all}
use Rattle.std.specs.List.{flat_map}
use Rattle.wq_record.specs.RecordData.{RecordData}
use Rattle.wq_walk.specs.declared.piece.Piece.{Piece}
use Rattle.wq_walk.specs.Tiles.{AreTiles, piece_records}

-- no records are taken from none
pub none_taken : (from n : ℕ) → take 0 (drop from []) ≡ take n (drop {A = RecordData} from [])
none_taken from n =
    let none : drop {A = RecordData} from [] ≡ [] = drop-nil from in
    ap (take 0) none ∙ sym (take_all n [] (omega arith)) ∙ ap (take n) (sym none)

-- the records with those of one more piece
one_more : (pieces : List Piece) (piece : Piece) (front back : List RecordData) → AreTiles front pieces → piece_records piece ≡ back → AreTiles (front ++ back) (pieces ++ (piece ∷ []))
one_more pieces piece front back are is =
    flat_map-append piece_records pieces (piece ∷ []) ∙ ap (λ rs. flat_map piece_records pieces ++ rs) (append-nil (piece_records piece) ∙ is) ∙ ap (λ rs. rs ++ back) are

-- the piece up to the next cut
pub more_tiles : (records : List RecordData) (pieces : List Piece) (piece : Piece) (start end : ℕ) → start ≤ end → AreTiles (take start records) pieces
    → piece_records piece ≡ take (end - start) (drop start records) → AreTiles (take end records) (pieces ++ (piece ∷ []))
more_tiles records pieces piece start end rise are is =
    let sum : start + (end - start) ≡ end = omega (arith, rise) in
    one_more pieces piece (take start records) (take (end - start) (drop start records)) are is
    ∙ sym (take-add start (end - start) records) ∙ ap (λ n. take n records) sum

-- the piece after the last cut
pub rest_tiles : (records : List RecordData) (pieces : List Piece) (piece : Piece) (start count : ℕ) → length records ≤ count → AreTiles (take start records) pieces
    → piece_records piece ≡ take (count - start) (drop start records) → AreTiles records (pieces ++ (piece ∷ []))
rest_tiles records pieces piece start count all are is =
    let short : length (drop start records) ≤ count - start = omega (arith, all, length-drop start records) in
    one_more pieces piece (take start records) (drop start records) are (is ∙ take_all (count - start) (drop start records) short)
    ∙ take-append-drop start records
