-- The lemma is the law.
use Rattle.wq_follow.proofs.Plain.{definitions_have_no_float}
use Rattle.wq_follow.proofs.law.definitions_have_no_float.Goals as goal

pub returns : goal.returns
returns c = definitions_have_no_float c.values_ask_what_they_write.ensures
