use Rattle.std.proofs.Common.{◌≡◌, ◌<◌, ◌≤◌, ◌+◌, ◌-◌, ℕ, false, drop}
use Rattle.wq_glob.specs.Cell.{marks_at}
use Rattle.wq_glob.specs.Leftmost.{first_takes}
use Rattle.wq_glob.proofs.leftmost.avoids.Given as goal

abbrev pub invariant-loop-i : goal.invariant-loop-i
invariant-loop-i l = record {
  few : l.i ≤ l.len;
  avoided : (j : ℕ) → j < l.i → first_takes l.rules (drop (l.k + j) l.steps) (marks_at l.rules l.text l.at) ≡ false;
}

abbrev pub decreases-loop-i : goal.decreases-loop-i
decreases-loop-i l = l.len - l.i
