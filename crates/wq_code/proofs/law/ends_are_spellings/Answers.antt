use Rattle.wq_code.proofs.FileLaws.{ends_are_spellings}
use Rattle.wq_code.proofs.law.ends_are_spellings.Goals as goal

pub returns : goal.returns
returns c = ends_are_spellings
