use Rattle.wq_stream.proofs.Adding.{cuts}
use Rattle.wq_stream.proofs.law.cuts_do_not_matter.Goals as goal

pub returns : goal.returns
returns c = cuts
