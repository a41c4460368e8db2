-- the merged positions, and the rests of the lists
use Rattle.std.proofs.Common.{◌≡◌, ◌+◌, ◌++◌, length}
use Rattle.wq_gen.specs.Union.{union}
use Rattle.wq_gen.proofs.position.merge.Given as goal

abbrev pub invariant-loop-x : goal.invariant-loop-x
invariant-loop-x l = l.both.items ++ union l.rest_left l.rest_right ≡ union l.left l.right

abbrev pub decreases-loop-x : goal.decreases-loop-x
decreases-loop-x l = length l.rest_left + length l.rest_right
