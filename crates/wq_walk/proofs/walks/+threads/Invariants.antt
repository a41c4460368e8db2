-- twice the number of threads that are still to draw
use Rattle.std.proofs.Common.{◌+◌, ◌*◌}
use Rattle.wq_walk.proofs.walks.+threads.Given as goal

abbrev pub decreases-Walks::drawn_by : goal.decreases-Walks::drawn_by
decreases-Walks::drawn_by g l = 2 * l.count

abbrev pub decreases-this : goal.decreases-this
decreases-this g l = 2 * l.left + 1
