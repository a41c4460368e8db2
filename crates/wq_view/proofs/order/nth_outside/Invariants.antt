-- what is before the low end is passed, and what is from the high end on is not
use Rattle.std.proofs.Common.{◌≤◌, ◌<◌, ◌+◌, ◌-◌, ℕ, length, get_or}
use Rattle.wq_view.proofs.order.nth_outside.Given as goal

abbrev pub invariant-loop-low : goal.invariant-loop-low
invariant-loop-low l = record {
  ends : l.low ≤ l.high;
  bound : l.high ≤ length l.rising;
  below : (i : ℕ) → i < l.low → get_or l.rising i 0 ≤ l.place + i;
  above : (i : ℕ) → l.high ≤ i → i < length l.rising → l.place + i < get_or l.rising i 0;
}

abbrev pub decreases-loop-low : goal.decreases-loop-low
decreases-loop-low l = l.high - l.low
