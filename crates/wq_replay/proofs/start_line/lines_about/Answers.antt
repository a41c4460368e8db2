-- A line about one more start.
use Rattle.std.proofs.Common.{map}
use Rattle.wq_replay.specs.Launched.{all_tried}
use Rattle.wq_replay.specs.StartLine.{tried_text}
use Rattle.wq_replay.proofs.StartLines.{lines_more}
use Rattle.wq_replay.proofs.start_line.lines_about.Goals as goal

pub loop-one-preserved : goal.loop-one-preserved
loop-one-preserved c =
    lines_more c.loop-one.lines c.push.new.self c.in_ok-line_about.field-0 c.args.tried.now c.loop-one.one-index c.one-item.result (map tried_text (all_tried c.args.tried.now))
    c.loop-one-test.true c.one-item.is c.in_ok-line_about.ensures c.in_ok-push.ensures.ok c.loop-one.invariant
