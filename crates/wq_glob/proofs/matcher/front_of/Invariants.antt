use Rattle.std.proofs.Common.{◌≡◌, ◌≤◌, ◌-◌, ◌+◌, length, drop}
use Rattle.wq_glob.specs.Cost.{front}
use Rattle.wq_glob.specs.Step.{step_form}
use Rattle.wq_glob.specs.Cell.{step_fits, marks_at}
use Rattle.wq_glob.proofs.matcher.front_of.Given as goal

abbrev pub invariant-loop-len : goal.invariant-loop-len
invariant-loop-len l = record {
  within_steps : l.len ≤ length l.steps;
  within_text : l.len ≤ length l.text;
  front : front (step_form l.rules) l.steps (marks_at l.rules l.text 0) ≡ l.len + front (step_form l.rules) (drop l.len l.steps) (marks_at l.rules l.text l.len);
  same : step_fits l.rules l.steps (marks_at l.rules l.text 0) ≡ step_fits l.rules (drop l.len l.steps) (marks_at l.rules l.text l.len);
}

abbrev pub decreases-loop-len : goal.decreases-loop-len
decreases-loop-len l = length l.steps - l.len
