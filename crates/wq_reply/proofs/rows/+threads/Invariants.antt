-- the pieces that are still to be printed
use Rattle.std.proofs.Common.{◌+◌, ◌*◌}
use Rattle.wq_reply.proofs.rows.+threads.Given as goal

abbrev pub decreases-print_pieces : goal.decreases-print_pieces
decreases-print_pieces g l = 2 * l.pieces

abbrev pub decreases-this : goal.decreases-this
decreases-this g l = 2 * l.left + 1
