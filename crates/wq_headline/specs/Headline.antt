-- The headline in plain words: what a program does on a file, and what the program of an expression
-- answers. The machine and its measure of cost are this server's own.
use Rattle.std.specs.Prelude.{◌≡◌, ◌≤◌, ℕ, Bool, false, IsTrue, List, filter, length}
use Rattle.wq_code.specs.Machine.{Answers}
use Rattle.wq_code.specs.declared.raw.Raw.{Raw}
use Rattle.wq_compile.specs.Code.{program_of}
use Rattle.wq_compile.specs.Cost.{most_steps_of}
use Rattle.wq_compile.specs.Large.{is_too_large}
use Rattle.wq_compile.specs.Meaning.{AnswersMeaning}
use Rattle.wq_eval.specs.Answer.{says_yes}
use Rattle.wq_machine.specs.Item.{item_of}
use Rattle.wq_machine.specs.Run.{NeverTraps}
use Rattle.wq_term.specs.Expr.{ExprData, means}
use Rattle.wq_term.specs.Fits.{expr_fits}
use Rattle.wq_verify.specs.Budget.{budget_of}
use Rattle.wq_verify.specs.Typing.{IsValid}
use Rattle.wq_record.specs.Limit.{max_name}
use Rattle.wq_record.specs.RecordData.{RecordData}

-- a program on a file: its run is trapped after no number of steps, it ends with an answer within
-- the budget for the length of the file's name, and with no other answer and cost
pub record RunsWell (raw : Raw) (r : RecordData) : Type 0 where
  pub never : NeverTraps raw (item_of r)
  pub answer : Bool
  pub steps : ℕ
  pub given : Answers raw (item_of r) answer steps
  pub within : steps ≤ budget_of raw (length r.name)
  pub only : (other : Bool) (cost : ℕ) → Answers raw (item_of r) other cost
      → (other ≡ answer) × (cost ≡ steps)

-- whoever wrote it, a program that may run does so on each file
abbrev pub ProgramsRun : Type 0
ProgramsRun = (raw : Raw) (r : RecordData) → IsValid raw → RunsWell raw r

-- the program of an expression that keeps the limits and is not too large may run, answers what the
-- expression means on each file, and costs no more than the expression's measure
abbrev pub ExpressionsCompile : Type 0
ExpressionsCompile = (t : ExprData) → IsTrue (expr_fits t) → is_too_large t ≡ false
    → IsValid (program_of t) × AnswersMeaning (program_of t) t
    × (budget_of (program_of t) max_name ≤ most_steps_of t)

-- so of any files it selects exactly those for which the expression is true
abbrev pub ExpressionsSelect : Type 0
ExpressionsSelect = (t : ExprData) (records : List RecordData) → IsTrue (expr_fits t)
    → is_too_large t ≡ false
    → filter (says_yes (program_of t)) records ≡ filter (means t) records
