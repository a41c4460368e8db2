-- The law by its lemma, from those of shelves and of asks.
use Rattle.wq_replay.proofs.Valid.{programs_are_valid}
use Rattle.wq_replay.proofs.law.programs_are_valid.Goals as goal

pub returns : goal.returns
returns c =
    programs_are_valid c.shelves_are_calls.ensures c.added_are_asked.ensures
    c.asks_hand_in_valid.ensures
