-- the rests are in the order of the texts
use Rattle.std.proofs.Common.{◌≡◌, ◌+◌, length}
use Rattle.wq_base.specs.Compare.{folded_order}
use Rattle.wq_base.proofs.compare.folded_order.Given as goal

abbrev pub invariant-loop-x : goal.invariant-loop-x
invariant-loop-x l = folded_order l.rest_first l.rest_second ≡ folded_order l.first l.second

abbrev pub decreases-loop-x : goal.decreases-loop-x
decreases-loop-x l = length l.rest_first + length l.rest_second
