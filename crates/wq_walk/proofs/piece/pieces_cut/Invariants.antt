-- the names stay
use Rattle.std.proofs.Common.{◌≡◌}
use Rattle.wq_walk.proofs.piece.pieces_cut.Given as goal

abbrev pub invariant-loop-number : goal.invariant-loop-number
invariant-loop-number l = l.cuts.names ≡ l.names
