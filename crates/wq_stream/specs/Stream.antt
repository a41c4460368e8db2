-- The events of a client's stream of bytes. One JSON value a line, and byte 0 at the start of
-- binary messages, are from Watchman's documentation of its socket interface and BSER. The limit of
-- a line is this server's own.
use Rattle.std.specs.Prelude.{◌≡◌, ◌≤◌, ℕ, Bool, true, false, ◌||◌, ◌==◌, nat_lt, if◌then◌else◌, List, [], ◌∷◌, ◌++◌, length, Option, Some, None}
use Rattle.std.specs.List.{list_any, slice_split}
use Rattle.wq_base.specs.Byte.{newline}
use Rattle.wq_stream.specs.Limit.{max_line}
use Rattle.wq_stream.specs.declared.event.Event.{Event}
use Rattle.wq_stream.specs.declared.event.Event.TheVariants.{Line, Long, Binary}

-- the byte between lines
abbrev pub is_newline : ℕ → Bool
is_newline byte = byte == newline

-- the parts of a stream between its newlines: its lines, and the bytes after the last newline
abbrev pub parts_of : List ℕ → List (List ℕ)
parts_of stream = slice_split is_newline stream

-- these bytes of a line begin with byte 0
abbrev pub is_binary : List ℕ → Bool
is_binary [] = false
is_binary (byte ∷ bytes) = byte == 0

-- these bytes of a line are over its limit: the first 1,048,577 of them have no newline
abbrev pub is_long : List ℕ → Bool
is_long bytes = nat_lt max_line (length bytes)

-- the event of a line
abbrev pub event_of : List ℕ → Event
event_of line = if is_binary line then Binary else if is_long line then Long else Line line

-- the event that the bytes of a line show before its newline has come
abbrev pub shown_by : List ℕ → List Event
shown_by bytes = if is_binary bytes || is_long bytes then event_of bytes ∷ [] else []

-- the events of the parts of a stream: no newline follows the last one
abbrev pub part_events : List (List ℕ) → List Event
part_events [] = []
part_events (rest ∷ []) = shown_by rest
part_events (line ∷ next ∷ parts) = event_of line ∷ part_events (next ∷ parts)

-- whether no event follows this event of a stream
abbrev pub is_last : Event → Bool
is_last Long = true
is_last Binary = true
is_last _ = false

-- the events up to the first one after which none follows
abbrev pub up_to_last : List Event → List Event
up_to_last [] = []
up_to_last (event ∷ events) = event ∷ (if is_last event then [] else up_to_last events)

-- the events of a stream
abbrev pub events_of : List ℕ → List Event
events_of stream = up_to_last (part_events (parts_of stream))

-- the bytes after the last newline, from the parts of a stream
abbrev pub last_part : List (List ℕ) → List ℕ
last_part [] = []
last_part (rest ∷ []) = rest
last_part (line ∷ next ∷ parts) = last_part (next ∷ parts)

-- the rest of a stream: the bytes after its last newline, if more events may come
abbrev pub kept_of : List ℕ → Option (List ℕ)
kept_of stream =
    if list_any is_last (events_of stream) then None else Some (last_part (parts_of stream))

-- the bytes of a line that has not ended and is not refused. They have no newline, do not begin
-- with byte 0, and are within the limit
pub record IsRest (rest : List ℕ) : Type 0 where
  pub one_line : list_any is_newline rest ≡ false
  pub text : is_binary rest ≡ false
  pub short : length rest ≤ max_line

-- a piece after the bytes of a stream adds these events, and leaves this rest
pub record Adds (stream piece : List ℕ) (events : List Event) (kept : Option (List ℕ))
    : Type 0 where
  pub events_are : events_of (stream ++ piece) ≡ events_of stream ++ events
  pub kept_is : kept ≡ kept_of (stream ++ piece)
