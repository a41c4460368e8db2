-- A program stands for an expression.
-- The machine is this server's own.
use Rattle.std.specs.Prelude.{ℕ}
use Rattle.wq_record.specs.RecordData.{RecordData}
use Rattle.wq_code.specs.Machine.{Answers}
use Rattle.wq_code.specs.declared.raw.Raw.{Raw}
use Rattle.wq_machine.specs.Item.{item_of}
use Rattle.wq_term.specs.Expr.{ExprData, means}

-- on each record the program's run ends with the meaning of the expression there
abbrev pub AnswersMeaning : Raw → ExprData → Type 0
AnswersMeaning raw t =
    (r : RecordData) → (steps : ℕ) × Answers raw (item_of r) (means t r) steps
