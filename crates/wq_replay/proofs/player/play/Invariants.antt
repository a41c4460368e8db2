-- The state of the playing of the script.
use Rattle.std.proofs.Common.{◌≤◌}
use Rattle.wq_replay.specs.Limit.{max_script}
use Rattle.wq_replay.proofs.Ending.{Holds}
use Rattle.wq_replay.proofs.player.play.Given as goal

abbrev pub invariant-loop-number : goal.invariant-loop-number
invariant-loop-number g l = (l.size ≤ max_script)
    × Holds (g.R.Read.remaining l.fn.reader) (g.R.Read.remaining l.reader) (g.W.Write.contents l.fn.writer) (g.W.Write.contents l.writer) l.size l.number l.stage
