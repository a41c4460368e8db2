-- the positions so far
use Rattle.std.proofs.Common.{◌≡◌, ◌++◌, take}
use Rattle.wq_view.specs.Moves.{moved_of, moves_data}
use Rattle.wq_view.proofs.order.push_moved.Given as goal

abbrev pub invariant-loop-position : goal.invariant-loop-position
invariant-loop-position l = l.later.items ≡ l.initial.later.items ++ moved_of (moves_data l.moves) (take l.position-index l.old)
