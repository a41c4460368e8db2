-- The program that is verified is the one of the expression.
use Rattle.std.proofs.Common.{◌≤◌, sym, subst, ◌∙◌}
use Rattle.wq_term.specs.Expr.{term_of}
use Rattle.wq_verify.specs.Budget.{budget_of}
use Rattle.wq_record.specs.Limit.{max_name}
use Rattle.wq_compile.specs.Cost.{most_steps_of}
use Rattle.wq_compile.specs.Meaning.{AnswersMeaning}
use Rattle.wq_compile.proofs.Costs.{program_costs}
use Rattle.wq_compile.proofs.Programs.{program_answers}
use Rattle.wq_compile.proofs.program.compile.Goals as goal

pub returns-in-Ok-clause-meaning : goal.returns-in-Ok-clause-meaning
returns-in-Ok-clause-meaning c =
    let t = term_of c.args.expr.now in
    subst (λ raw. AnswersMeaning raw t) (sym (c.in-Ok.ensures.program ∙ c.in_ok-raw.ensures)) (program_answers t)

pub returns-in-Ok-clause-cost : goal.returns-in-Ok-clause-cost
returns-in-Ok-clause-cost c =
    let t = term_of c.args.expr.now in
    subst (λ raw. budget_of raw max_name ≤ most_steps_of t) (sym (c.in-Ok.ensures.program ∙ c.in_ok-raw.ensures))
    (program_costs t c.requires (sym c.is_too_large.ensures ∙ c.if-is_too_large.false))
