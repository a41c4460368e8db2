-- The cost of an answer: the steps of a program over all files that it is run on.
-- This server's own measure.
use Rattle.std.specs.Prelude.{◌≡◌, ◌≤◌, ◌*◌, ℕ, Bool, List, All, length, sum_by}
use Rattle.wq_code.specs.Machine.{Outcome, Answered, Answers, after}
use Rattle.wq_code.specs.declared.raw.Raw.{Raw}
use Rattle.wq_machine.specs.Item.{item_of}
use Rattle.wq_verify.specs.Budget.{budget_of}
use Rattle.wq_verify.specs.Typing.{IsValid}
use Rattle.wq_record.specs.Limit.{max_name}
use Rattle.wq_record.specs.RecordData.{RecordData}

-- the steps of a run; none if it is not at its end
abbrev pub steps_in : Outcome → ℕ
steps_in (Answered answer steps) = steps
steps_in _ = 0

-- the steps of a program on a record: those of its run after as many steps as it has instructions.
-- Each run of a program that may run ends within them
abbrev pub steps_of : Raw → RecordData → ℕ
steps_of raw r = steps_in (after raw (item_of r) (length raw.code))

-- each answer of a program that may run has these steps
abbrev pub StepsAreSaid : Type 0
StepsAreSaid = (raw : Raw) (r : RecordData) (answer : Bool) (steps : ℕ) → IsValid raw
    → Answers raw (item_of r) answer steps → steps ≡ steps_of raw r

-- A program that may run costs at most its budget for the longest name, on each of some files whose
-- names are no longer
abbrev pub AnswersAreWithin : Type 0
AnswersAreWithin = (raw : Raw) (records : List RecordData) → IsValid raw
    → All (λ r. length r.name ≤ max_name) records
    → sum_by (steps_of raw) records ≤ length records * budget_of raw max_name
