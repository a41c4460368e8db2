use Rattle.wq_glob.specs.ByteSet.{has_byte}
use Rattle.wq_glob.proofs.ByteSetLemmas.{others_have}
use Rattle.wq_glob.proofs.byte_set.ByteSet.complement.Goals as goal

pub returns : goal.returns
unfolding has_byte
returns c b small = others_have c.args.self.now.words b small
