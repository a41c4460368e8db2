-- The program that is there answers what the expression means within its measure.
use Rattle.std.proofs.Common.{sym, subst, ◌∙◌}
use Rattle.wq_code.specs.declared.raw.Raw.{Raw}
use Rattle.wq_reply.specs.Meaning.{AnswersWithin}
use Rattle.wq_query.specs.Query.{asked_of}
use Rattle.wq_session.proofs.Programs.{there_answers}
use Rattle.wq_session.proofs.command.query.compiled.Goals as goal

pub returns-in_ok-try_clone-in-Some : goal.returns-in_ok-try_clone-in-Some
returns-in_ok-try_clone-in-Some c = (
  subst (λ (raw : Raw). AnswersWithin raw (asked_of c.args.query.now).expression) (sym c.in_ok-try_clone-in-Some.ensures)
      (there_answers (asked_of c.args.query.now).expression c.args.lookup.now c.in-Some.program c.requires c.in-Some.is),
  sym c.requires.0 ∙ c.if-lookup.false,
)
