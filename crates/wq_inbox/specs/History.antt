-- The history of the events of one client, as a thread knows it: those that its reader put into its
-- session's queue. It is this server's own.
use Rattle.std.specs.Prelude.{◌≡◌, ◌==◌, MatchBool, ℕ, true, List, [], ◌∷◌, ◌++◌, length}
use mathlib.Core.List.{IsPrefix}
use Rattle.logbook.specs.Pages.{Book, Cell, Named, Step, View}
use Rattle.wq_stream.specs.declared.event.Event.{Event}

-- the word that threads share is the length of the history
abbrev pub IsCount : List Cell → List Event → Type 0
IsCount cells log = cells ≡ (length log, true) ∷ (0, true) ∷ []

-- the shared word of this history
abbrev pub head_of : Book → Named
head_of book = record { tracked = true; key = 0; book = book }

-- the event was added to a history that was known whole; or the history was longer
abbrev pub AddsEvent : Step Event → View Event ℕ → ℕ → View Event ℕ → Type 0
AddsEvent step before found after =
    MatchBool (found == step.old) (after.0 ≡ before.0 ++ step.ask ∷ []) (length after.0 ≡ found)

-- both lists begin one history
abbrev pub BeginOne : List Event → List Event → Type 0
BeginOne first second = (all : List Event) × IsPrefix first all × IsPrefix second all
