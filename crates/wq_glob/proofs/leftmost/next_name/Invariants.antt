use Rattle.std.proofs.Common.{◌≡◌, ◌≤◌, ◌-◌, Bool, List, length}
use Rattle.wq_glob.specs.Cell.{marks_at}
use Rattle.wq_glob.specs.Fits.{has_no_hidden_dot}
use Rattle.wq_glob.specs.FitsTest.{directories}
use Rattle.wq_glob.specs.Mark.{Mark}
use Rattle.wq_glob.proofs.leftmost.next_name.Given as goal

abbrev pub invariant-loop-at : goal.invariant-loop-at
invariant-loop-at l = record {
  after : l.from ≤ l.at;
  within : l.at ≤ length l.text;
  same : (fit : List Mark → Bool) → directories has_no_hidden_dot fit (marks_at l.rules l.text l.from) ≡ directories has_no_hidden_dot fit (marks_at l.rules l.text l.at);
}

abbrev pub decreases-loop-at : goal.decreases-loop-at
decreases-loop-at l = length l.text - l.at
