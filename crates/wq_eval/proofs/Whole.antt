-- Pieces one after the other are the whole.
use Rattle.std.proofs.Common.{◌≡◌, ◌≤◌, ◌*◌, ◌+◌, ◌++◌, ℕ, Bool, List, filter, take, length, sym, ap, ◌∙◌}
use Rattle.std.proofs.Math.Nat.{suc-mul}
use Rattle.std.proofs.Math.Numerals.{suc-eq-add-one}
use Rattle.std.proofs.Math.Seq.{take-add}
use Rattle.std.proofs.lemmas.List.{take_all}
use Rattle.std.proofs.lemmas.List.Elements.{filter-append}
use Rattle.std.proofs.lemmas.List.Sorted.{All-permutation}
use Rattle.std.specs.Prelude.{IsPermutation}
use Rattle.wq_eval.specs.Piece.{AreRight, IsRight, piece_of}
use Rattle.wq_eval.specs.declared.piece.Done.{Done}
use Rattle.wq_eval.specs.declared.piece.Pieces.{Pieces}

-- the pieces before the next one are those before this one, and this one
pub next_piece : (keeps : ℕ → Bool) (size number : ℕ) (xs : List ℕ)
    → filter keeps (take (number * size) xs) ++ filter keeps (piece_of size xs number) ≡ filter keeps (take ((number + 1) * size) xs)
next_piece keeps size number xs =
    let more : (number + 1) * size ≡ number * size + size = ap (λ n. n * size) (sym (suc-eq-add-one number)) ∙ suc-mul number size in
    sym (filter-append keeps (take (number * size) xs) (piece_of size xs number))
    ∙ ap (filter keeps) (sym (take-add (number * size) size xs) ∙ ap (λ n. take n xs) (sym more))

-- all pieces are the whole
pub all_pieces : (keeps : ℕ → Bool) (size count : ℕ) (xs : List ℕ)
    → length xs ≤ count * size → filter keeps (take (count * size) xs) ≡ filter keeps xs
all_pieces keeps size count xs fits = ap (filter keeps) (take_all (count * size) xs fits)

-- pieces that were evaluated are right in any order
pub right_in_order : (pieces : Pieces) (old new : List Done) → IsPermutation old new → AreRight pieces old → AreRight pieces new
right_in_order pieces old new same right = All-permutation (IsRight pieces) old new same right
