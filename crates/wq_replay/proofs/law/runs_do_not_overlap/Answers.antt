-- The law by its lemma, which takes those of answers and of rounds.
use Rattle.wq_replay.proofs.Overlap.{runs_do_not_overlap}
use Rattle.wq_replay.proofs.law.runs_do_not_overlap.Goals as goal

pub returns : goal.returns
returns c = runs_do_not_overlap c.answers_are_calls.ensures c.rounds_are_calls.ensures
