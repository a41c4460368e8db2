-- The number of pieces that have a name, if one more piece is cut off.
use Rattle.std.proofs.Common.{◌≡◌, ℕ, ◌+◌, Bool, true, false, cond, not, ◌&&◌, List, [], ◌∷◌, ◌++◌, Bor, Some, None, refl, ap, ◌∙◌, arith}
use mathlib.Core.Bool.{false≢true}
use Rattle.std.specs.Prelude.{Option}
use Rattle.std.specs.Ordering.{is_lt}
use Rattle.std.specs.Cmp.Lexicographic.{nat_list_cmp_total}
use Rattle.std.proofs.lemmas.List.Sums.{sum_by-append}
use Rattle.wq_base.proofs.Facts.{less_from_lt}
use Rattle.wq_record.specs.Name.{name_cmp}
use Rattle.wq_disk.specs.declared.part.Part.{Part}
use Rattle.wq_walk.specs.declared.piece.Piece.{Piece}
use Rattle.wq_disk.specs.Part.{is_in}
use Rattle.wq_walk.specs.Pieces.{is_behind, pieces_with, IsSharedOut, IsSharedOutBelow}

-- a name below a cut is below each name after it
below_both : (name cut other : List ℕ) → is_lt (name_cmp cut other) ≡ true → is_lt (name_cmp name cut) ≡ true → is_lt (name_cmp name other) ≡ true
below_both name cut other behind below = ap is_lt (nat_list_cmp_total.trans name cut other (less_from_lt _ below) (less_from_lt _ behind))

-- a name below one of two cuts is below the later one, and so is a name between them
one_of_two : (a b : Bool) → (a ≡ true → b ≡ true) → cond a 1 0 + cond (not a && b) 1 0 ≡ cond b 1 0
one_of_two true true h = refl
one_of_two true false h = absurd (false≢true (h refl))
one_of_two false true h = refl
one_of_two false false h = refl

-- a name that is not below a cut is in the rest
one_of_rest : (a : Bool) → cond a 1 0 + cond (not a && true) 1 0 ≡ 1
one_of_rest true = refl
one_of_rest false = refl

none_and : (n : ℕ) → 0 + n ≡ n
none_and n = omega arith

one_more : (name : List ℕ) (pieces : List Piece) (piece : Piece) → pieces_with name (pieces ++ (piece ∷ [])) ≡ pieces_with name pieces + cond (is_in piece.part name) 1 0
one_more name pieces piece = sum_by-append (λ (p : Piece). cond (is_in p.part name) 1 0) pieces (piece ∷ []) ∙ ap (λ n. pieces_with name pieces + n) (none_and _)

-- the number of pieces with a name if this is one more
one_part : (name : List ℕ) (pieces : List Piece) (piece : Piece) (part : Part) → piece.part ≡ part → pieces_with name (pieces ++ (piece ∷ [])) ≡ pieces_with name pieces + cond (is_in part name) 1 0
one_part name pieces piece part is = one_more name pieces piece ∙ ap (λ p. pieces_with name pieces + cond (is_in p name) 1 0) is

-- the piece between the last cut and one after it
pub shared_with_one : (pieces : List Piece) (last : Option (Bor (List ℕ))) (cut : Bor (List ℕ)) (piece : Piece) → piece.part ≡ record { from = last; below = Some cut } → is_behind cut.now last ≡ true → IsSharedOutBelow last pieces → IsSharedOutBelow (Some cut) (pieces ++ (piece ∷ []))
shared_with_one pieces None cut piece is behind shared name = one_part name pieces piece _ is ∙ rw (shared name) (none_and _)
shared_with_one pieces (Some last) cut piece is behind shared name = one_part name pieces piece _ is ∙ rw (shared name) (one_of_two _ _ (below_both name last.now cut.now behind))

-- the piece after the last cut
pub shared_with_rest : (pieces : List Piece) (last : Option (Bor (List ℕ))) (piece : Piece) → piece.part ≡ record { from = last; below = None } → IsSharedOutBelow last pieces → IsSharedOut (pieces ++ (piece ∷ []))
shared_with_rest pieces None piece is shared name = one_part name pieces piece _ is ∙ rw (shared name) refl
shared_with_rest pieces (Some last) piece is shared name = one_part name pieces piece _ is ∙ rw (shared name) (one_of_rest _)
