-- twice the number of threads that are still to draw
use Rattle.std.proofs.Common.{◌+◌, ◌*◌}
use Rattle.wq_walk.proofs.sweep.+threads.Given as goal

abbrev pub decreases-Sweep::changed_by : goal.decreases-Sweep::changed_by
decreases-Sweep::changed_by g l = 2 * l.count

abbrev pub decreases-this : goal.decreases-this
decreases-this g l = 2 * l.left + 1
