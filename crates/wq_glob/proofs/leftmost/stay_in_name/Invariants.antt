use Rattle.std.proofs.Common.{◌≡◌, ◌≤◌, ◌-◌, length, drop}
use Rattle.wq_glob.specs.Leftmost.{all_stay}
use Rattle.wq_glob.proofs.leftmost.stay_in_name.Given as goal

abbrev pub invariant-loop-i : goal.invariant-loop-i
invariant-loop-i l = record {
  within : l.i ≤ length l.steps;
  same : all_stay l.rules (drop l.k l.steps) ≡ all_stay l.rules (drop l.i l.steps);
}

abbrev pub decreases-loop-i : goal.decreases-loop-i
decreases-loop-i l = length l.steps - l.i
