use Rattle.std.proofs.Common.{ap, ◌∙◌, ◌==◌, ◌/◌, ◌%◌, ℕ}
use Rattle.std.proofs.lemmas.Nat.Bits.{bit_at-zero}
use Rattle.std.specs.Int.{bit_at}
use Rattle.wq_glob.specs.ByteSet.{has_byte}
use Rattle.wq_glob.proofs.ByteSetLemmas.{zeros}
use Rattle.wq_glob.proofs.byte_set.ByteSet.empty.Goals as goal

pub returns : goal.returns
unfolding has_byte
returns c b = ap (λ (w : ℕ). bit_at w (b % 64) == 1) (zeros (b / 64)) ∙ ap (λ (n : ℕ). n == 1) (bit_at-zero (b % 64))
