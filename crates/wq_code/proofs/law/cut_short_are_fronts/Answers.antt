use Rattle.wq_code.proofs.FileLaws.{cut_short_are_fronts}
use Rattle.wq_code.proofs.law.cut_short_are_fronts.Goals as goal

pub returns : goal.returns
returns c = cut_short_are_fronts
