-- The pieces in which a tree is walked: each name is in exactly one of them. No public document
-- defines it.
use Rattle.std.specs.Prelude.{◌≡◌, ℕ, Bool, List, Option, true, false, cond}
use Rattle.std.specs.Borrow.{Bor}
use Rattle.std.specs.List.{count_by}
use Rattle.std.specs.Option.{option_map_or}
use Rattle.std.specs.Ordering.{is_lt}
use Rattle.wq_record.specs.Name.{name_cmp}
use Rattle.wq_walk.specs.declared.piece.Piece.{Piece}
use Rattle.wq_disk.specs.Part.{is_in}

-- the number of these pieces that have a name in their parts
abbrev pub pieces_with : List ℕ → List Piece → ℕ
pieces_with name pieces = count_by (λ piece. is_in piece.part name) pieces

-- pieces that share out all names: each is in exactly one of them
abbrev pub IsSharedOut : List Piece → Type 0
IsSharedOut pieces = (name : List ℕ) → pieces_with name pieces ≡ 1

-- whether a name is below a cut; if there is no cut, no name is
abbrev pub is_below_cut : List ℕ → Option (Bor (List ℕ)) → Bool
is_below_cut name cut = option_map_or (λ cut. is_lt (name_cmp name cut.now)) cut false

-- whether a name is after a cut; if there is no cut, each name is
abbrev pub is_behind : List ℕ → Option (Bor (List ℕ)) → Bool
is_behind name cut = option_map_or (λ cut. is_lt (name_cmp cut.now name)) cut true

-- pieces that share out the names below a cut: each is in exactly one of them, and no other name is
-- in any
abbrev pub IsSharedOutBelow : Option (Bor (List ℕ)) → List Piece → Type 0
IsSharedOutBelow cut pieces = (name : List ℕ) →
    pieces_with name pieces ≡ cond (is_below_cut name cut) 1 0
