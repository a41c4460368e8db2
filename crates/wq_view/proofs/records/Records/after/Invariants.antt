-- what is left to pass
use Rattle.std.proofs.Common.{◌≡◌, drop}
use Rattle.wq_view.specs.Records.{records_left}
use Rattle.wq_view.proofs.records.Records.after.Given as goal

abbrev pub invariant-loop-stretch : goal.invariant-loop-stretch
invariant-loop-stretch l = drop l.more (records_left l.left) ≡ drop l.count (records_left l.self)

abbrev pub decreases-loop-stretch : goal.decreases-loop-stretch
decreases-loop-stretch l = l.more
