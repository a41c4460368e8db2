-- The rest that the code keeps of a stream, and the events that it returns. No public document
-- defines it.
use Rattle.std.specs.Prelude.{◌≡◌, ℕ, Bool, true, false, List, Option, Some, None}
use Rattle.wq_stream.specs.Stream.{IsRest, events_of, kept_of}
use Rattle.wq_stream.specs.declared.piece.Told.{Told}

-- a rest is kept if more events may come
abbrev pub kept_as : Bool → List ℕ → Option (List ℕ)
kept_as true rest = None
kept_as false rest = Some rest

-- the events of a stream were returned, and this rest is kept of it
pub record Tells (stream : List ℕ) (told : Told) (rest : List ℕ) : Type 0 where
  pub events_are : told.events.items ≡ events_of stream
  pub kept_is : kept_as told.has_ended rest ≡ kept_of stream
  pub is_rest : IsRest rest
