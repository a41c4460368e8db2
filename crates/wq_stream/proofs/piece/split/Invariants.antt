-- The events so far, and the events of the remaining bytes, are the events of all bytes.
use Rattle.std.proofs.Common.{◌≡◌, ◌++◌, length}
use Rattle.wq_stream.specs.Stream.{events_of, kept_of}
use Rattle.wq_stream.proofs.piece.split.Given as goal

abbrev pub invariant-loop-at : goal.invariant-loop-at
invariant-loop-at l =
    (l.events.items ++ events_of l.left ≡ l.fn.events.items ++ events_of l.fn.bytes)
    × (kept_of l.left ≡ kept_of l.fn.bytes)

abbrev pub decreases-loop-at : goal.decreases-loop-at
decreases-loop-at l = length l.left
