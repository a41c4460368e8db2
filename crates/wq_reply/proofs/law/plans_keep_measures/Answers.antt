-- Each plan has it.
use Rattle.wq_reply.proofs.law.plans_keep_measures.Goals as goal

pub returns : goal.returns
returns c plan none = plan.cost none
