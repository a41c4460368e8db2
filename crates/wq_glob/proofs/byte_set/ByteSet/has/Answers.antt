use Rattle.std.proofs.Common.{ap, ◌==◌, ℕ}
use Rattle.std.proofs.lemmas.Nat.Bits.{shr_and_one}
use Rattle.wq_glob.specs.ByteSet.{has_byte}
use Rattle.wq_glob.proofs.byte_set.ByteSet.has.Goals as goal

pub returns : goal.returns
unfolding has_byte
returns c = ap (λ (n : ℕ). n == 1) (shr_and_one _ _)
