-- what was put are the events of what was read
use Rattle.std.proofs.Common.{[], None}
use Rattle.wq_inbox.proofs.Reading.{ends_ill, ends_well, ends_within, nothing_yet, reads_on}
use Rattle.wq_inbox.proofs.stream_reader.read_all.Goals as goal

pub returns-in_default : goal.returns-in_default
returns-in_default g c =
    ends_ill [] c.args.feed.now c.args.feed.now c.put.new.self c.put.result (nothing_yet c.args.feed.now) c.put.ensures

pub returns-in-Ok-eq0 : goal.returns-in-Ok-eq0
returns-in-Ok-eq0 g c =
    let so = c.loop.invariant in
    ends_well so.0 c.args.feed.now c.loop.feed c.put-in-Ok-eq0.new.self c.put-in-Ok-eq0.result so.2 c.put-in-Ok-eq0.ensures

pub returns-in-Err-2 : goal.returns-in-Err-2
returns-in-Err-2 g c =
    let so = c.loop.invariant in
    ends_ill so.0 c.args.feed.now c.loop.feed c.put-in-Err-2.new.self c.put-in-Err-2.result so.2 c.put-in-Err-2.ensures

pub returns-then-not-put_events : goal.returns-then-not-put_events
returns-then-not-put_events g c =
    let so = c.loop.invariant in
    ends_within so.0 [] None c.args.feed.now c.loop.feed c.put_events.new.feed so.2 (c.if-not-put_events.ensures so.0 so.1)

pub loop-preserved : goal.loop-preserved
loop-preserved g c =
    let so = c.loop.invariant in
    reads_on so.0 _ c.put_events.new.splitter c.args.feed.now c.loop.feed c.put_events.new.feed so.2 (c.if-not-put_events.ensures so.0 so.1)
