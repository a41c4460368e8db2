use Rattle.std.proofs.Common.{◌≤◌, sym, subst, ◌∙◌}
use Rattle.wq_code.specs.declared.raw.Raw.{Raw}
use Rattle.wq_compile.specs.Cost.{most_steps_of}
use Rattle.wq_compile.specs.Meaning.{AnswersMeaning}
use Rattle.wq_term.specs.Expr.{term_of}
use Rattle.wq_verify.specs.Budget.{budget_of}
use Rattle.wq_record.specs.Limit.{max_name}
use Rattle.wq_registry.proofs.cache.compile_shared.Goals as goal

pub returns-clause-meaning : goal.returns-clause-meaning
returns-clause-meaning c =
    subst (λ (raw : Raw). AnswersMeaning raw (term_of c.args.expr.now)) (sym (c.in_ok-share.ensures ∙ c.running.ensures)) c.in_ok-program.ensures.meaning

pub returns-clause-cost : goal.returns-clause-cost
returns-clause-cost c =
    subst (λ (raw : Raw). budget_of raw max_name ≤ most_steps_of (term_of c.args.expr.now)) (sym (c.in_ok-share.ensures ∙ c.running.ensures)) c.in_ok-program.ensures.cost
