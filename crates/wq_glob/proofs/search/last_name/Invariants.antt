use Rattle.std.proofs.Common.{◌≡◌, ◌<◌, ◌≤◌, ℕ, false, length, slice_index}
use Rattle.wq_base.specs.Byte.{is_slash}
use Rattle.wq_glob.proofs.search.last_name.Given as goal

abbrev pub invariant-loop-at : goal.invariant-loop-at
invariant-loop-at l = record {
  after : l.from ≤ l.at;
  within : l.at ≤ length l.text;
  name : (i : ℕ) → l.at ≤ i → i < length l.text → is_slash (slice_index l.text i) ≡ false;
}

abbrev pub decreases-loop-at : goal.decreases-loop-at
decreases-loop-at l = l.at
