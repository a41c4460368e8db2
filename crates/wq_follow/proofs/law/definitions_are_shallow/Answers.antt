-- The lemma is the law.
use Rattle.wq_follow.proofs.Plain.{definitions_are_shallow}
use Rattle.wq_follow.proofs.law.definitions_are_shallow.Goals as goal

pub returns : goal.returns
returns c = definitions_are_shallow c.values_ask_what_they_write.ensures
