-- From the lemmas of each part.
use Rattle.wq_compile.proofs.Costs.{program_costs}
use Rattle.wq_compile.proofs.Programs.{program_answers}
use Rattle.wq_compile.proofs.Sizes.{program_valid}
use Rattle.wq_compile.proofs.law.expressions_compile.Goals as goal

pub returns : goal.returns
returns c t fits small =
    (program_valid t fits small, program_answers t, program_costs t fits small)
