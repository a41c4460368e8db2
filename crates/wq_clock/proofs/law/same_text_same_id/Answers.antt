use Rattle.wq_clock.proofs.Spellings.{same_text}
use Rattle.wq_clock.proofs.law.same_text_same_id.Goals as goal

pub returns : goal.returns
returns c = same_text
