use Rattle.std.proofs.Common.{◌≡◌, ◌<◌, ◌≤◌, ◌==◌, ◌-◌, ℕ, false, length, slice_index}
use Rattle.wq_glob.specs.Byte.{lower_of}
use Rattle.wq_glob.proofs.search.find_folded.Given as goal

abbrev pub invariant-loop-at : goal.invariant-loop-at
invariant-loop-at l = record {
  after : l.from ≤ l.at;
  within : l.at ≤ length l.text;
  other : (i : ℕ) → l.from ≤ i → i < l.at → (lower_of (slice_index l.text i) == l.byte) ≡ false;
}

abbrev pub decreases-loop-at : goal.decreases-loop-at
decreases-loop-at l = length l.text - l.at
