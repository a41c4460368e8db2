-- From the laws of programs that may run.
use Rattle.wq_eval.proofs.Costs.{steps_are_said}
use Rattle.wq_eval.proofs.law.steps_are_said.Goals as goal

pub returns : goal.returns
returns c = steps_are_said c.runs_begin_well.ensures c.steps_go_well.ensures
