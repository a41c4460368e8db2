use Rattle.std.proofs.Common.{◌≡◌, ◌<◌, ◌≤◌, ◌==◌, ◌-◌, ℕ, false, slice_index}
use Rattle.wq_glob.proofs.search.find_same.Given as goal

abbrev pub invariant-loop-at : goal.invariant-loop-at
invariant-loop-at l = record {
  after : l.from ≤ l.at;
  within : l.at ≤ l.to;
  other : (i : ℕ) → l.from ≤ i → i < l.at → (slice_index l.text i == l.byte) ≡ false;
}

abbrev pub decreases-loop-at : goal.decreases-loop-at
decreases-loop-at l = l.to - l.at
