-- The law by its lemma.
use Rattle.wq_session.proofs.Adding.{added_are_asked}
use Rattle.wq_session.proofs.law.added_are_asked.Goals as goal

pub returns : goal.returns
returns c = added_are_asked
