-- what was kept of the pieces so far
use Rattle.std.proofs.Common.{◌≡◌, ◌*◌, filter, take}
use Rattle.wq_eval.specs.Piece.{is_kept}
use Rattle.wq_eval.proofs.collector.collect.Given as goal

abbrev pub invariant-loop-number : goal.invariant-loop-number
invariant-loop-number g l = l.kept.items ≡ filter (is_kept l.pieces) (take (l.number * l.pieces.size) l.pieces.positions.now)
