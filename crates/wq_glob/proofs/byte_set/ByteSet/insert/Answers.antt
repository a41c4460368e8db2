use Rattle.std.proofs.Common.{arith}
use Rattle.wq_glob.specs.ByteSet.{has_byte}
use Rattle.wq_glob.proofs.ByteSetLemmas.{set_has}
use Rattle.wq_glob.proofs.byte_set.ByteSet.insert.Goals as goal

pub returns : goal.returns
unfolding has_byte
returns c b small = set_has c.args.self.now.words c.args.byte b (omega arith)
