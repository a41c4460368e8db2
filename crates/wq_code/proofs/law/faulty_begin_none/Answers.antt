use Rattle.wq_code.proofs.FileLaws.{faulty_begin_none}
use Rattle.wq_code.proofs.law.faulty_begin_none.Goals as goal

pub returns : goal.returns
returns c = faulty_begin_none
