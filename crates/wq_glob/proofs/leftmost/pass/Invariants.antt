use Rattle.std.proofs.Common.{◌≡◌, ◌<◌, ◌≤◌, ◌-◌, ℕ, true}
use Rattle.wq_glob.specs.Cell.{mark_at}
use Rattle.wq_glob.specs.Fits.{is_wild}
use Rattle.wq_glob.proofs.leftmost.pass.Given as goal

abbrev pub invariant-loop-at : goal.invariant-loop-at
invariant-loop-at l = record {
  after : l.from ≤ l.at;
  within : l.at ≤ l.to;
  wild : (i : ℕ) → l.from ≤ i → i < l.at → is_wild l.rules.flags (mark_at l.rules l.text i) ≡ true;
}

abbrev pub decreases-loop-at : goal.decreases-loop-at
decreases-loop-at l = l.to - l.at
