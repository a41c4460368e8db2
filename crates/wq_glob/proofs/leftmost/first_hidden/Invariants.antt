use Rattle.std.proofs.Common.{◌≡◌, ◌<◌, ◌≤◌, ◌-◌, ℕ, true}
use Rattle.wq_glob.specs.Cell.{mark_at}
use Rattle.wq_glob.specs.Fits.{has_no_hidden_dot}
use Rattle.wq_glob.proofs.leftmost.first_hidden.Given as goal

abbrev pub invariant-loop-at : goal.invariant-loop-at
invariant-loop-at l = record {
  after : l.from ≤ l.at;
  within : l.at ≤ l.to;
  shown : (i : ℕ) → l.from ≤ i → i < l.at → has_no_hidden_dot (mark_at l.rules l.text i) ≡ true;
}

abbrev pub decreases-loop-at : goal.decreases-loop-at
decreases-loop-at l = l.to - l.at
