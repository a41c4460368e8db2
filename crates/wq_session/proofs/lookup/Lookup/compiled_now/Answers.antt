-- The program that is compiled answers what the expression means within its measure.
use Rattle.std.proofs.Common.{◌≤◌, sym, subst, ◌∙◌}
use Rattle.wq_compile.specs.Cost.{most_steps_of}
use Rattle.wq_compile.specs.Meaning.{AnswersMeaning}
use Rattle.wq_reply.specs.Meaning.{AnswersWithin}
use Rattle.wq_query.specs.Query.{asked_of}
use Rattle.wq_verify.specs.Budget.{budget_of}
use Rattle.wq_record.specs.Limit.{max_name}
use Rattle.wq_session.proofs.lookup.Lookup.compiled_now.Goals as goal

pub new-compiled-requires-clause-meaning : goal.new-compiled-requires-clause-meaning
new-compiled-requires-clause-meaning c =
    subst (AnswersMeaning c.in-Ok.program.value) (c.expr.ensures.value ∙ sym c.expr-in-Some.ensures.value) c.in-Ok.ensures.meaning

pub new-compiled-requires-clause-cost : goal.new-compiled-requires-clause-cost
new-compiled-requires-clause-cost c =
    subst (λ t. budget_of c.in-Ok.program.value max_name ≤ most_steps_of t) (c.expr.ensures.value ∙ sym c.expr-in-Some.ensures.value) c.in-Ok.ensures.cost

pub returns : goal.returns
returns c =
    c.kept.ensures (asked_of c.args.query.now).expression (
      c.requires.lookup.0,
      tt,
      subst (AnswersWithin c.in-Ok.program.value) c.expr.ensures.value (c.in-Ok.ensures.meaning, c.in-Ok.ensures.cost),
    )
