-- The events of a stream that is read piece by piece.
use Rattle.std.proofs.Common.{◌≡◌, ℕ, Bool, true, false, List, [], ◌∷◌, ◌++◌, Option, inl, inr, refl, ap, sym, ◌∙◌, append_assoc, append-nil}
use mathlib.Core.List.{IsPrefix}
use Rattle.wq_stream.specs.declared.event.Event.{Event}
use Rattle.wq_stream.specs.declared.event.Event.TheVariants.{End, Fault}
use Rattle.wq_stream.specs.Stream.{Adds, events_of, kept_of}
use Rattle.wq_inbox.specs.Queue.{AreRead, PutsEvent, PutsPiece, ReadsAll}

-- no event of a piece was put
pub puts_none : (stream piece : List ℕ) (kept : Option (List ℕ)) (before after : List Event) → after ≡ before
    → PutsPiece stream piece false kept before after
puts_none stream piece kept before after same =
    (stream, [], ([], append-nil (events_of stream ++ []) ∙ append-nil (events_of stream)), same ∙ sym (append-nil before))

-- the first events of a piece were put
pub puts_some : (stream piece : List ℕ) (kept : Option (List ℕ)) (events first later before after : List Event)
    → Adds stream piece events kept → events ≡ first ++ later → after ≡ before ++ first
    → PutsPiece stream piece false kept before after
puts_some stream piece kept events first later before after adds is so = (
  stream ++ piece,
  first,
  (later, append_assoc (events_of stream) first later ∙ (ap (λ l. events_of stream ++ l) (sym is) ∙ sym adds.events_are)),
  so,
)

-- nothing was read yet
pub nothing_yet : (before : List Event) → before ≡ before ++ events_of []
nothing_yet before = sym (append-nil before)

-- what was read so far
pub reads_so_far : (stream : List ℕ) (before after : List Event) → after ≡ before ++ events_of stream → ReadsAll before after
reads_so_far stream before after so = (events_of stream, (stream, inl ([], append-nil (events_of stream))), so)

ends_as : (last : Event) (stream : List ℕ) (before at after : List Event) (put : Bool) → AreRead (events_of stream ++ last ∷ [])
    → at ≡ before ++ events_of stream → PutsEvent at last put after → ReadsAll before after
ends_as last stream before at after true may so is = (
  events_of stream ++ last ∷ [],
  may,
  is ∙ (ap (λ l. l ++ last ∷ []) so ∙ append_assoc before (events_of stream) (last ∷ [])),
)
ends_as last stream before at after false may so is = reads_so_far stream before after (is ∙ so)

-- the stream ended
pub ends_well : (stream : List ℕ) (before at after : List Event) (put : Bool) → at ≡ before ++ events_of stream
    → PutsEvent at End put after → ReadsAll before after
ends_well stream before at after put so is = ends_as End stream before at after put (stream, inr (inl refl)) so is

-- the stream cannot be read any more
pub ends_ill : (stream : List ℕ) (before at after : List Event) (put : Bool) → at ≡ before ++ events_of stream
    → PutsEvent at Fault put after → ReadsAll before after
ends_ill stream before at after put so is = ends_as Fault stream before at after put (stream, inr (inr refl)) so is

-- the queue was closed within a piece
pub ends_within : (stream piece : List ℕ) (kept : Option (List ℕ)) (before at after : List Event) → at ≡ before ++ events_of stream
    → PutsPiece stream piece false kept at after → ReadsAll before after
ends_within stream piece kept before at after so (whole, events, begins, is) = (
  events_of stream ++ events,
  (whole, inl begins),
  is ∙ (ap (λ l. l ++ events) so ∙ append_assoc before (events_of stream) events),
)

-- what is known between two pieces
abbrev pub Reads : List Event → Option (List ℕ) → List Event → Type 0
Reads before kept after = (stream : List ℕ) × (kept ≡ kept_of stream) × (after ≡ before ++ events_of stream)

-- a piece was put whole
pub reads_on : (stream piece : List ℕ) (kept : Option (List ℕ)) (before at after : List Event) → at ≡ before ++ events_of stream
    → PutsPiece stream piece true kept at after → Reads before kept after
reads_on stream piece kept before at after so (events, adds, is) = (
  stream ++ piece,
  adds.kept_is,
  is ∙ (ap (λ l. l ++ events) so ∙ (append_assoc before (events_of stream) events ∙ ap (λ l. before ++ l) (sym adds.events_are))),
)
