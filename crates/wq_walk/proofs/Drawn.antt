-- Walks of pieces that threads drew, and what is left of them when one is taken.
use Rattle.std.proofs.Common.{◌≡◌, ℕ, suc, ◌<◌, ◌+◌, arith, get_or, List, [], ◌∷◌, ◌++◌, Some}
use Rattle.std.proofs.Common.{take, drop, length, ap, sym, subst, ◌∙◌, slice_get, Ok, Vec}
use Rattle.std.specs.declared.alloc.Global.{Global}
use Rattle.std.proofs.lemmas.List.{map-append, take_all, take_more}
use Rattle.std.proofs.lemmas.List.Elements.{All-append, All-drop, All-get_or, All-nil}
use Rattle.std.proofs.lemmas.List.Elements.{All-push, All-take}
use Rattle.std.proofs.lemmas.Option.{get_or_from_slice_get, slice_get_within}
use Rattle.std.specs.List.{All, remove}
use Rattle.wq_walk.specs.declared.piece.Piece.{Piece}
use Rattle.wq_walk.specs.declared.rows.Rows.{Rows}
use Rattle.wq_walk.specs.declared.walks.Walked.{Walked}
use Rattle.wq_walk.specs.Listed.{AreOfPieces, AreWalks, IsDrawn, IsWalkOfPiece}
use Rattle.wq_walk.specs.Listed.{walked_pieces}
use Rattle.wq_walk.specs.Found.{found_rows}
use Rattle.wq_walk.specs.Walk.{IsWalk}
use Rattle.wq_disk.specs.Told.{FailsAt, GivesStat, Has}

-- the first items of a list, and the next one
pub take_next : {X : Type 0} (xs : List X) (n : ℕ) (x : X) → slice_get xs n ≡ Some x
    → take (n + 1) xs ≡ take n xs ++ (x ∷ [])
take_next xs n x is =
    take_more xs n x (slice_get_within xs n x is)
    ∙ ap (λ y. take n xs ++ (y ∷ [])) (get_or_from_slice_get xs n x x is)

-- the rows of the first pieces, and those of the next one
pub one_more : (says : GivesStat) (has : Has) (root : List ℕ) (walked new : List Rows) (rows : Rows)
    (pieces : List Piece) (place : ℕ) → new ≡ walked ++ (rows ∷ [])
    → IsWalkOfPiece says has root pieces place rows
    → AreWalks says has root walked × (walked_pieces walked ≡ take place pieces)
    → AreWalks says has root new × (walked_pieces new ≡ take (place + 1) pieces)
unfolding IsWalkOfPiece
one_more says has root walked new rows pieces place is walk (walks, of) = (
  subst (λ all. AreWalks says has root all) (sym is)
      (All-push (λ (r : Rows). IsWalk says has root r.piece.part (found_rows r.found)) walked rows walks walk.0),
  ap walked_pieces is
      ∙ map-append (λ (r : Rows). r.piece) walked (rows ∷ [])
      ∙ ap (λ all. all ++ (rows.piece ∷ [])) of
      ∙ sym (take_next pieces place rows.piece walk.1),
)

-- all pieces
pub whole : (walked : List Rows) (pieces : List Piece) (count : ℕ) → count ≡ length pieces
    → walked_pieces walked ≡ take count pieces → walked_pieces walked ≡ pieces
whole walked pieces count is of = of ∙ take_all count pieces (omega (arith, is))

-- the rows are those of a walk of the piece at their place
abbrev Is : GivesStat → Has → List ℕ → List Piece → Walked → Type 0
Is says has root pieces walked = IsWalkOfPiece says has root pieces walked.place walked.rows

-- no rows are those of their pieces
pub none : (says : GivesStat) (has : Has) (root : List ℕ) (pieces : List Piece) (list : List Walked)
    → list ≡ [] → AreOfPieces says has root pieces list
unfolding AreOfPieces
none says has root pieces list is =
    subst (λ l. All (Is says has root pieces) l) (sym is) (All-nil (Is says has root pieces))

-- so are rows of theirs with one more
pub pushed : (says : GivesStat) (has : Has) (root : List ℕ) (pieces : List Piece) (list : List Walked)
    (walked : Walked) → AreOfPieces says has root pieces list
    → IsWalkOfPiece says has root pieces walked.place walked.rows
    → AreOfPieces says has root pieces (list ++ (walked ∷ []))
unfolding AreOfPieces
pushed says has root pieces list walked all one =
    All-push (Is says has root pieces) list walked all one

-- two lists of them
pub both : (says : GivesStat) (has : Has) (root : List ℕ) (pieces : List Piece) (list rest : List Walked)
    → AreOfPieces says has root pieces list → AreOfPieces says has root pieces rest
    → AreOfPieces says has root pieces (list ++ rest)
unfolding AreOfPieces
both says has root pieces list rest all more =
    All-append (Is says has root pieces) list rest all more

-- and what is left of them without one
pub without : (says : GivesStat) (has : Has) (root : List ℕ) (pieces : List Piece) (list : List Walked)
    (at : ℕ) → AreOfPieces says has root pieces list
    → AreOfPieces says has root pieces (remove list at)
unfolding AreOfPieces
without says has root pieces list at all =
    All-append (Is says has root pieces) (take at list) (drop (suc at) list)
    (All-take (Is says has root pieces) at list all)
    (All-drop (Is says has root pieces) (suc at) list all)

-- one of them is of its piece
pub walked_at : (says : GivesStat) (has : Has) (root : List ℕ) (pieces : List Piece) (list : List Walked)
    (at : ℕ) (walked : Walked) → at < length list → AreOfPieces says has root pieces list
    → IsWalkOfPiece says has root pieces (get_or list at walked).place (get_or list at walked).rows
unfolding AreOfPieces
walked_at says has root pieces list at walked within all =
    All-get_or (Is says has root pieces) list at walked within all

-- so are the pieces that a thread drew
pub drawn_ok : (says : GivesStat) (has : Has) (fails : FailsAt) (root : List ℕ)
    (pieces : List Piece) (list : Vec Walked Global) → IsDrawn says has fails root pieces (Ok list)
    → AreOfPieces says has root pieces list.items
unfolding IsDrawn
drawn_ok says has fails root pieces list drawn = drawn.0
