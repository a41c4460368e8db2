use Rattle.wq_clock.proofs.Spellings.{reads_back}
use Rattle.wq_clock.proofs.law.printed_ids_read_back.Goals as goal

pub returns : goal.returns
returns c = reads_back
