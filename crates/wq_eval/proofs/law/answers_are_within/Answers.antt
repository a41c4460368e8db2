-- From the laws of programs that may run.
use Rattle.wq_eval.proofs.Costs.{answers_are_within}
use Rattle.wq_eval.proofs.law.answers_are_within.Goals as goal

pub returns : goal.returns
returns c = answers_are_within c.runs_begin_well.ensures c.steps_go_well.ensures
