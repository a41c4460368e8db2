use Rattle.std.proofs.Common.{◌≡◌, ◌-◌, ◌≤◌, ◌+◌, ◌*◌, length}
use Rattle.wq_glob.specs.Cost.{row_cells}
use Rattle.wq_glob.specs.Step.{step_form}
use Rattle.wq_glob.specs.Cell.{IsRow, IsWindow, marks_at}
use Rattle.wq_glob.proofs.matcher.run.Given as goal

abbrev pub invariant-loop-at : goal.invariant-loop-at
invariant-loop-at l = record {
  from : l.from ≤ l.at;
  within : l.at ≤ length l.text;
  filled : IsRow l.rules l.steps (marks_at l.rules l.text l.at) l.row;
  lives : IsWindow l.rules l.steps (marks_at l.rules l.text l.at) 0 l.window;
  cells : l.cells ≡ row_cells (step_form l.rules) l.steps (marks_at l.rules l.text l.at);
  bounded : l.cells ≤ (length l.steps + 1) * (length l.text - l.at + 1);
  counted : length l.text - l.at + 1 ≤ l.cells;
}

abbrev pub decreases-loop-at : goal.decreases-loop-at
decreases-loop-at l = l.at - l.from
