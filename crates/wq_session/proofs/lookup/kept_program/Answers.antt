-- The program that is kept answers what the other does.
use Rattle.std.proofs.Common.{rules, ◌≡◌, Option, Some, IfSome, subst}
use Rattle.std.specs.declared.alloc.Global.{Global}
use Rattle.std.specs.declared.sync.Arc.{Arc}
use Rattle.wq_code.specs.declared.raw.Raw.{Raw}
use Rattle.wq_reply.specs.Meaning.{AnswersWithin}
use Rattle.wq_session.proofs.Programs.{kept_answers}
use Rattle.wq_session.proofs.lookup.kept_program.Goals as goal

pub returns : goal.returns
returns c = λ t answers.
    let there : c.args.program ≡ Some c.in_ok-program.field-0 = search rules in
    kept_answers t c.in_ok-program.field-0.value c.in-Ok.kept.value c.in-Ok.ensures
    (subst (λ (p : Option (Arc Raw Global)). IfSome p (λ program. AnswersWithin program.value t)) there answers)
