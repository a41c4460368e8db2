-- all that was evaluated is right
use Rattle.wq_eval.specs.Piece.{AreRight}
use Rattle.wq_eval.proofs.workers.work.Given as goal

abbrev pub invariant-loop : goal.invariant-loop
invariant-loop g l = AreRight l.pieces l.all.items
