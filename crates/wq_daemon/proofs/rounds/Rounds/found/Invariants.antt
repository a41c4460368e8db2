-- What was found so far is right at the view.
use Rattle.wq_reply.specs.Ahead.{AreAheadAt}
use Rattle.wq_daemon.proofs.rounds.Rounds.found.Given as goal

abbrev pub invariant-loop-ask : goal.invariant-loop-ask
invariant-loop-ask g l = AreAheadAt l.view.records l.ahead.items
