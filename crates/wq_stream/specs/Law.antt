-- The laws by which the cuts between the pieces of a stream do not matter. No public document
-- defines them.
use Rattle.std.specs.Prelude.{◌≡◌, ℕ, List, [], ◌∷◌, ◌++◌, Option}
use Rattle.std.specs.List.{concat}
use Rattle.wq_stream.specs.Stream.{events_of, kept_of, Adds}
use Rattle.wq_stream.specs.declared.event.Event.{Event}

-- pieces after the bytes of a stream, one after the other, add these events
abbrev pub AddInTurn : List ℕ → List (List ℕ) → List Event → Type 0
AddInTurn stream [] events = events ≡ []
AddInTurn stream (piece ∷ pieces) events = (first later : List Event) × (kept : Option (List ℕ))
    × Adds stream piece first kept × AddInTurn (stream ++ piece) pieces later
    × (events ≡ first ++ later)

-- all pieces of a stream, in turn, add the events of the whole stream, at whatever places it is cut
abbrev pub PiecesTellTheStream : Type 0
PiecesTellTheStream = (pieces : List (List ℕ)) (events : List Event)
    → AddInTurn [] pieces events → events ≡ events_of (concat pieces)

-- two pieces, one after the other, add the same events and leave the same rest as one piece
abbrev pub CutsDoNotMatter : Type 0
CutsDoNotMatter = (stream xs ys : List ℕ) (first second whole : List Event)
    (kept last last_of_whole : Option (List ℕ))
    → Adds stream xs first kept → Adds (stream ++ xs) ys second last
    → Adds stream (xs ++ ys) whole last_of_whole
    → (first ++ second ≡ whole) × (last ≡ last_of_whole)

-- the events of a stream stay as they are, whatever bytes follow: each piece adds some events
abbrev pub ToldEventsStay : Type 0
ToldEventsStay = (stream piece : List ℕ)
    → (events : List Event) × Adds stream piece events (kept_of (stream ++ piece))
