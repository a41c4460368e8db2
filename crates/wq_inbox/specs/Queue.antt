-- The events that a reader puts into a session's queue, the events that the session takes, and the
-- moments that come between them. It is this server's own.
use Rattle.std.specs.Prelude.{◌≡◌, ◌⊎◌, ℕ, suc, Bool, true, false, List, [], ◌∷◌, ◌++◌, Option, Some, None}
use mathlib.Core.List.{IsPrefix}
use Rattle.wq_stream.specs.declared.event.Event.{Event}
use Rattle.wq_stream.specs.declared.event.Event.TheVariants.{End, Fault}
use Rattle.wq_stream.specs.Inbox.{of_client}
use Rattle.wq_stream.specs.Stream.{Adds, events_of, kept_of}
use Rattle.wq_inbox.specs.declared.coming.Coming.{Coming}
use Rattle.wq_inbox.specs.declared.coming.Turn.{Turn}
use Rattle.wq_inbox.specs.declared.coming.Turn.TheVariants.{Client, Closed, Moment}

-- an event was put after those that were put before, or it was not put
abbrev pub PutsEvent : List Event → Event → Bool → List Event → Type 0
PutsEvent before event true after = after ≡ before ++ event ∷ []
PutsEvent before event false after = after ≡ before

-- the events of a piece after the bytes of a stream were put, in their order: all of them, or, until
-- the queue was closed, the first ones
abbrev pub PutsPiece : List ℕ → List ℕ → Bool → Option (List ℕ) → List Event → List Event → Type 0
PutsPiece stream piece true kept before after =
    (events : List Event) × Adds stream piece events kept × (after ≡ before ++ events)
PutsPiece stream piece false kept before after =
    (whole : List ℕ) × (events : List Event)
    × IsPrefix (events_of stream ++ events) (events_of whole) × (after ≡ before ++ events)

-- these are the events of some stream of bytes: the first ones of it; or all of it, and then its end
-- or its fault
abbrev pub AreRead : List Event → Type 0
AreRead events = (stream : List ℕ)
    × (IsPrefix events (events_of stream) ⊎ (events ≡ events_of stream ++ End ∷ [])
    ⊎ (events ≡ events_of stream ++ Fault ∷ []))

-- a reader put the events of a stream after those that were put before
abbrev pub ReadsAll : List Event → List Event → Type 0
ReadsAll before after = (events : List Event) × AreRead events × (after ≡ before ++ events)

-- a session took an event: the next one of those that were put. Or it has a moment, or its end, and
-- took none
abbrev pub TakesEvent : List Event → Event → List Event → Type 0
TakesEvent before event after =
    (after ≡ before ++ event ∷ []) ⊎ ((after ≡ before) × (of_client event ≡ []))

-- the next turn is that of a moment that is due, or of an event of the client that waits; or the
-- queue is closed. It is nobody's only if there is neither
abbrev pub TakesNext : Coming → Option Turn → Coming → Type 0
TakesNext before (Some (Moment number)) after =
    (before.due.items ≡ number ∷ after.due.items) × (after.waiting ≡ before.waiting)
TakesNext before (Some Client) after =
    (before.waiting ≡ suc after.waiting) × (after.due.items ≡ before.due.items)
TakesNext before (Some Closed) after = (before.is_closed ≡ true) × (after ≡ before)
TakesNext before None after =
    (before.waiting ≡ 0) × (before.due.items ≡ []) × (after.due.items ≡ [])
