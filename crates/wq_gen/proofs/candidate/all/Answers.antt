-- One more position.
use Rattle.wq_gen.proofs.Positions.{range_more}
use Rattle.wq_gen.proofs.candidate.all.Goals as goal

pub loop-i-preserved : goal.loop-i-preserved
loop-i-preserved c = range_more c.loop-i.i c.loop-i.found.items _ c.loop-i.invariant c.in_ok-push.ensures.items
