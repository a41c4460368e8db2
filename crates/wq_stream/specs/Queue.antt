-- The events that wait for a session, as a queue that can be closed. No public document defines it.
use Rattle.std.specs.Prelude.{◌≡◌, ℕ, Bool, true, false, List, [], ◌∷◌, ◌++◌, Option, Some, None}
use Rattle.wq_stream.specs.declared.event.Event.{Event}
use Rattle.wq_stream.specs.declared.event.Event.TheVariants.{End}

-- the most events that wait
abbrev pub most_waiting : ℕ
most_waiting = 8

-- the events that wait, the first one first, and whether the queue is closed
pub record QueueData : Type 0 where
  pub events : List Event
  pub is_closed : Bool

-- the queue with an event after the others
abbrev pub with_event : Event → QueueData → QueueData
with_event event queue =
    record { events = queue.events ++ event ∷ []; is_closed = queue.is_closed }

-- the empty queue that is closed
abbrev pub closed : QueueData
closed = record { events = []; is_closed = true }

-- an event was put after the others of a queue that is open, or it was not put and the queue is
-- closed
abbrev pub Puts : Event → QueueData → Bool → QueueData → Type 0
Puts event old true new = (old.is_closed ≡ false) × (new ≡ with_event event old)
Puts event old false new = new ≡ closed

-- the event that was taken: the end from a closed queue; from an open queue the first event, if one
-- waits
abbrev pub TakesFirst : QueueData → Option Event → QueueData → Type 0
TakesFirst old (Some event) new = (new.is_closed ≡ old.is_closed)
    × (old.is_closed ≡ true → event ≡ End)
    × (old.is_closed ≡ false → old.events ≡ event ∷ new.events)
TakesFirst old None new = (old.is_closed ≡ false) × (old.events ≡ []) × (new ≡ old)
