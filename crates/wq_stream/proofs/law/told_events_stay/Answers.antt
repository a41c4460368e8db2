use Rattle.wq_stream.proofs.Adding.{told_stays}
use Rattle.wq_stream.proofs.law.told_events_stay.Goals as goal

pub returns : goal.returns
returns c = told_stays
