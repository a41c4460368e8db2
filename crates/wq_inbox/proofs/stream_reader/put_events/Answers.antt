-- the events before the one that was refused were put
use Rattle.std.proofs.Common.{rules, ◌≡◌, ◌++◌, ◌∙◌}
use Rattle.std.specs.Vec.Iter.{into_iter_items}
use Rattle.wq_inbox.proofs.Reading.{puts_some}
use Rattle.wq_inbox.proofs.stream_reader.put_events.Goals as goal

pub returns-then-not-put : goal.returns-then-not-put
returns-then-not-put g c stream kept =
    let first = c.loop-event.yielded in
    let later = into_iter_items c.loop-event.event-iterator in
    let is : c.in-Some.events.items ≡ first ++ later = search rules in
    let same : c.put.new.self ≡ c.loop-event.feed = search rules in
    puts_some stream c.args.piece.now c.split.new.splitter c.in-Some.events.items first later c.args.feed.now c.put.new.self
    (c.in-Some.ensures stream kept) is (same ∙ c.loop-event.invariant.0)
