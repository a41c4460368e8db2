use Rattle.std.proofs.Common.{◌-◌, length}
use Rattle.wq_glob.specs.Leftmost.{AreTaken}
use Rattle.wq_glob.proofs.leftmost.taken.Given as goal

abbrev pub invariant-loop-len : goal.invariant-loop-len
invariant-loop-len l = record {
  taken : AreTaken l.rules l.steps l.text l.k l.at l.len;
}

abbrev pub decreases-loop-len : goal.decreases-loop-len
decreases-loop-len l = length l.steps - l.len
