-- The law by its lemma, which takes those of answers, of rounds and of what asks add.
use Rattle.wq_session.proofs.Reaching.{reached_by_calls}
use Rattle.wq_session.proofs.shared_shelf.reached_by_calls.Goals as goal

pub returns : goal.returns
returns c =
    reached_by_calls c.answers_are_calls.ensures c.rounds_are_calls.ensures c.added_are_asked.ensures
