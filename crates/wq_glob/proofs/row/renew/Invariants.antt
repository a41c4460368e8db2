use Rattle.std.proofs.Common.{◌≤◌, ◌+◌, ◌∷◌, ℕ}
use Rattle.wq_glob.specs.Cell.{Bounds, mark_at, marks_at}
use Rattle.wq_glob.proofs.SeenLemmas.{IsOpened}
use Rattle.wq_glob.proofs.SweepLemmas.{IsSwept}
use Rattle.wq_glob.proofs.row.renew.Given as goal

abbrev pub invariant-loop-seen : goal.invariant-loop-seen
invariant-loop-seen l = record {
  in_range : l.k ≤ l.window.high + 1;
  swept : IsSwept l.fn.rules l.steps (mark_at l.fn.rules l.text l.at) (marks_at l.fn.rules l.text (l.at + 1)) l.row l.k l.old_next l.new_next;
  opened : (j : ℕ) → l.k ≤ j → j ≤ l.window.high → IsOpened l.fn.rules l.steps (mark_at l.fn.rules l.text l.at) (marks_at l.fn.rules l.text (l.at + 1)) l.window.low j;
  bounds : Bounds l.fn.rules l.steps (mark_at l.fn.rules l.text l.at ∷ marks_at l.fn.rules l.text (l.at + 1)) l.k l.live;
}

abbrev pub decreases-loop-seen : goal.decreases-loop-seen
decreases-loop-seen l = l.k
