-- The parts of the headline, from the laws of the crates below.
use Rattle.std.proofs.Common.{◌≡◌, false, IsTrue, sym, ◌∙◌, arith}
use Rattle.std.proofs.lemmas.List.Elements.{filter_agree}
use Rattle.wq_compile.specs.Code.{program_of}
use Rattle.wq_compile.specs.Large.{is_too_large}
use Rattle.wq_compile.specs.Law.{ExpressionsHavePrograms}
use Rattle.wq_eval.specs.Answer.{AnswersAreSaid, RunsSay, says_yes}
use Rattle.wq_eval.specs.Cost.{StepsAreSaid}
use Rattle.wq_term.specs.Expr.{ExprData, means}
use Rattle.wq_term.specs.Fits.{expr_fits}
use Rattle.wq_verify.specs.Law.{RunsBeginWell, StepsGoWell}
use Rattle.wq_record.specs.RecordData.{RecordData}
use Rattle.wq_headline.specs.Headline.{ExpressionsSelect, ProgramsRun}
use Rattle.wq_headline.proofs.Runs.{never_trapped, within_budget}

-- each program that may run does so on each file
pub programs_run : RunsBeginWell → StepsGoWell → RunsSay → AnswersAreSaid → StepsAreSaid → ProgramsRun
programs_run begin law say said costs raw r valid =
    let run = say raw r valid in
    let cost = costs raw r (says_yes raw r) run.0 valid run.1 in
    let budget = within_budget raw r begin law valid in
    record {
      never = λ k trapped. never_trapped raw r k begin law valid trapped;
      answer = says_yes raw r;
      steps = run.0;
      given = run.1;
      within = omega (arith, cost, budget);
      only = λ other steps given. (said raw r other steps valid given, costs raw r other steps valid given ∙ sym cost);
    }

-- the program of an expression answers yes where the expression is true
pub says_meaning : ExpressionsHavePrograms → AnswersAreSaid → (t : ExprData) (r : RecordData)
    → IsTrue (expr_fits t) → is_too_large t ≡ false → says_yes (program_of t) r ≡ means t r
says_meaning compile said t r fits small =
    let is = compile t fits small in
    let run = is.1 r in
    sym (said (program_of t) r (means t r) run.0 is.0 run.1)

-- so it selects those files
pub expressions_select : ExpressionsHavePrograms → AnswersAreSaid → ExpressionsSelect
expressions_select compile said t records fits small =
    filter_agree (says_yes (program_of t)) (means t) (λ r. says_meaning compile said t r fits small) records
