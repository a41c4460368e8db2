-- The law by its lemma, which takes those of answers and of rounds.
use Rattle.wq_replay.proofs.Shelves.{shelves_are_calls}
use Rattle.wq_replay.proofs.law.shelves_are_calls.Goals as goal

pub returns : goal.returns
returns c = shelves_are_calls c.answers_are_calls.ensures c.rounds_are_calls.ensures
