-- If what is left of both is equal, so are the rows.
use Rattle.std.proofs.Common.{◌≡◌, length}
use Rattle.wq_verify.proofs.same.all_same.Given as goal

abbrev pub invariant-loop-left : goal.invariant-loop-left
invariant-loop-left g l = l.left ≡ l.rest → l.rows ≡ l.others

abbrev pub decreases-loop-left : goal.decreases-loop-left
decreases-loop-left g l = length l.left
