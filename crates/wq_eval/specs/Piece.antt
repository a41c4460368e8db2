-- Pieces of a list of positions, which workers evaluate one by one.
-- This server's own.
use Rattle.std.specs.Prelude.{◌≡◌, ◌*◌, ◌<◌, ◌≤◌, ℕ, Bool, List, All, drop, filter, length, take}
use Rattle.wq_eval.specs.Answer.{says_yes}
use Rattle.wq_eval.specs.declared.piece.Done.{Done}
use Rattle.wq_eval.specs.declared.piece.Pieces.{Pieces}
use Rattle.wq_view.specs.Limit.{max_records}
use Rattle.wq_view.specs.Position.{passes_at}

-- the piece of this number: so many positions, and at the end what is left
abbrev pub piece_of : ℕ → List ℕ → ℕ → List ℕ
piece_of size positions number = take size (drop (number * size) positions)

-- whether the program of the pieces answers yes for the file at a position
abbrev pub is_kept : Pieces → ℕ → Bool
is_kept pieces = passes_at (says_yes pieces.program.now) pieces.view.now.records

-- what was kept is what the program keeps of the piece of this number
abbrev pub IsRight : Pieces → Done → Type 0
IsRight pieces done =
    done.kept.items
    ≡ filter (is_kept pieces) (piece_of pieces.size pieces.positions.now done.number)

-- this holds of each evaluated piece of a list
abbrev pub AreRight : Pieces → List Done → Type 0
AreRight pieces list = All (IsRight pieces) list

-- a piece has a position or more, each position is one of a record, and a view can have as many
abbrev pub AreSound : Pieces → Type 0
AreSound pieces =
    (1 ≤ pieces.size) × All (λ i. i < length pieces.view.now.records) pieces.positions.now
    × (length pieces.positions.now ≤ max_records)
