-- the events so far were put
use Rattle.std.proofs.Common.{◌≡◌, ◌++◌}
use Rattle.std.specs.Vec.Iter.{into_iter_items}
use Rattle.wq_inbox.proofs.stream_reader.put_events.Given as goal

abbrev pub invariant-loop-event : goal.invariant-loop-event
invariant-loop-event g l =
    (l.feed ≡ l.initial.feed ++ l.yielded)
    × (into_iter_items l.initial.event-iterator ≡ l.yielded ++ into_iter_items l.event-iterator)
