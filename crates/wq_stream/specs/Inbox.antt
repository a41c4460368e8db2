-- The events that an inbox hands out.
-- It is this server's own.
use Rattle.std.specs.Prelude.{◌≡◌, List, [], ◌∷◌, ◌++◌}
use Rattle.wq_stream.specs.declared.event.Event.{Event}
use Rattle.wq_stream.specs.declared.event.Event.TheVariants.{Idle, End}

-- an inbox shows nothing; or the events that are left; or the events of its client that it has
-- handed out so far
pub data InboxData : Type 0 where
  hidden : InboxData
  left : (events : List Event) → InboxData
  handed : (events : List Event) → InboxData

-- an event as a list, if it is of the client: a moment comes from the server, and the end of a
-- session may
abbrev pub of_client : Event → List Event
of_client (Idle root) = []
of_client End = []
of_client event = event ∷ []

-- those of these events that are of the client
abbrev pub clients : List Event → List Event
clients [] = []
clients (event ∷ events) = of_client event ++ clients events

-- an inbox hands out an event. If it shows the events that are left, it is the first of them, or,
-- if none is left, that the client has gone. If it shows what it has handed out, that now ends with
-- this event, if it is one of the client
abbrev pub Hands : InboxData → Event → InboxData → Type 0
Hands hidden event after = after ≡ hidden
Hands (left []) event after = (event ≡ End) × (after ≡ left [])
Hands (left (first ∷ later)) event after = (event ≡ first) × (after ≡ left later)
Hands (handed before) event after = after ≡ handed (before ++ of_client event)
