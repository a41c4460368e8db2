use Rattle.std.proofs.Common.{◌≡◌, ◌≤◌, ◌-◌, length}
use Rattle.wq_glob.specs.Leftmost.{are_shown}
use Rattle.wq_glob.proofs.leftmost.is_shown.Given as goal

abbrev pub invariant-loop-at : goal.invariant-loop-at
invariant-loop-at l = record {
  within : l.at ≤ length l.text;
  same : are_shown l.rules l.text l.from ≡ are_shown l.rules l.text l.at;
}

abbrev pub decreases-loop-at : goal.decreases-loop-at
decreases-loop-at l = length l.text - l.at
