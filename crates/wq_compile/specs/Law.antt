-- What is true of the program of each expression. The measure of cost is this server's own.
use Rattle.std.specs.Prelude.{◌≡◌, ◌≤◌, false, IsTrue}
use Rattle.wq_record.specs.Limit.{max_name}
use Rattle.wq_verify.specs.Budget.{budget_of}
use Rattle.wq_verify.specs.Typing.{IsValid}
use Rattle.wq_term.specs.Expr.{ExprData}
use Rattle.wq_term.specs.Fits.{expr_fits}
use Rattle.wq_compile.specs.Code.{program_of}
use Rattle.wq_compile.specs.Cost.{most_steps_of}
use Rattle.wq_compile.specs.Large.{is_too_large}
use Rattle.wq_compile.specs.Meaning.{AnswersMeaning}

-- the program of an expression may run, answers what the expression means on each record, and costs
-- no more than the expression's measure
abbrev pub ExpressionsHavePrograms : Type 0
ExpressionsHavePrograms = (t : ExprData) → IsTrue (expr_fits t) → is_too_large t ≡ false
    → IsValid (program_of t) × AnswersMeaning (program_of t) t
    × (budget_of (program_of t) max_name ≤ most_steps_of t)
