-- all that was joined is right
use Rattle.wq_eval.specs.Piece.{AreRight}
use Rattle.wq_eval.proofs.collector.joined.Given as goal

abbrev pub invariant-loop-list : goal.invariant-loop-list
invariant-loop-list l = AreRight l.pieces l.all.items
