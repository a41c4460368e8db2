-- A program answers the meaning of an expression, and costs no more than the expression's measure.
-- The machine and the measure are this server's own.
use Rattle.std.specs.Prelude.{◌≡◌, ◌≤◌, length}
use Rattle.wq_code.specs.declared.raw.Raw.{Raw}
use Rattle.wq_compile.specs.Cost.{most_steps_of}
use Rattle.wq_compile.specs.Meaning.{AnswersMeaning}
use Rattle.wq_eval.specs.Answer.{says_yes}
use Rattle.wq_eval.specs.Cost.{steps_of}
use Rattle.wq_term.specs.Expr.{ExprData, means}
use Rattle.wq_verify.specs.Budget.{budget_of}
use Rattle.wq_record.specs.Limit.{max_name}
use Rattle.wq_record.specs.RecordData.{RecordData}

-- it answers yes for exactly the records that the expression matches
abbrev pub SaysMeaning : Raw → ExprData → Type 0
SaysMeaning raw t = (r : RecordData) → says_yes raw r ≡ means t r

-- on each record that a view can have it takes no more steps than the expression's measure
abbrev pub KeepsMeasure : Raw → ExprData → Type 0
KeepsMeasure raw t = (r : RecordData) → length r.name ≤ max_name → steps_of raw r ≤ most_steps_of t

-- it answers what the expression means, and its budget is no more than the expression's measure
abbrev pub AnswersWithin : Raw → ExprData → Type 0
AnswersWithin raw t = AnswersMeaning raw t × (budget_of raw max_name ≤ most_steps_of t)
