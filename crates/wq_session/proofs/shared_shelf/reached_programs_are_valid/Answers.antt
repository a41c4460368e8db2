-- The law by its lemma, which takes those of answers, of rounds and of what asks add.
use Rattle.wq_session.proofs.Reaching.{reached_programs_are_valid}
use Rattle.wq_session.proofs.shared_shelf.reached_programs_are_valid.Goals as goal

pub returns : goal.returns
returns c =
    reached_programs_are_valid c.answers_are_calls.ensures c.rounds_are_calls.ensures
    c.added_are_asked.ensures
