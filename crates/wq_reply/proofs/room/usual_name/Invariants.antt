-- the reader has the view's records
use Rattle.std.proofs.Common.{◌≡◌}
use Rattle.wq_reply.proofs.room.usual_name.Given as goal

abbrev pub invariant-loop-sample : goal.invariant-loop-sample
invariant-loop-sample l = l.reader ≡ l.view.records
