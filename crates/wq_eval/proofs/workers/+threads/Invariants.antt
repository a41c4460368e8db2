-- the threads that are still to draw
use Rattle.std.proofs.Common.{◌+◌, ◌*◌}
use Rattle.wq_eval.proofs.workers.+threads.Given as goal

abbrev pub decreases-drawn_by : goal.decreases-drawn_by
decreases-drawn_by g l = 2 * l.threads

abbrev pub decreases-this : goal.decreases-this
decreases-this g l = 2 * l.left + 1
