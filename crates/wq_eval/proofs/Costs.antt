-- A run of a program that may run costs at most its budget, and so do runs over many files together.
use Rattle.std.proofs.Common.{◌≡◌, ℕ, zero, suc, ◌<◌, ◌≤◌, ◌⊎◌, inl, inr, [], ◌∷◌, length, sum_by, sym, ap, ◌∙◌, arith}
use Rattle.std.proofs.lemmas.Bool.{cases_lt}
use Rattle.std.proofs.lemmas.List.Sums.{sum_by-cons}
use Rattle.std.proofs.Math.Nat.{suc-mul}
use Rattle.wq_code.specs.Item.{Item}
use Rattle.wq_code.specs.Machine.{Outcome, Running, Answered, Trapped, advance, step, after}
use Rattle.wq_code.specs.declared.raw.Raw.{Raw}
use Rattle.wq_machine.specs.Item.{item_of}
use Rattle.wq_verify.specs.Budget.{budget_of, most_cost, width_of}
use Rattle.wq_verify.specs.Kinds.{KnownKinds}
use Rattle.wq_verify.specs.Law.{RunsBeginWell, StepsGoWell}
use Rattle.wq_verify.specs.Run.{IsFit, GoesWell, HasWidth}
use Rattle.wq_verify.specs.Typing.{IsTyping, IsValid}
use Rattle.wq_record.specs.Limit.{max_name}
use Rattle.wq_record.specs.RecordData.{RecordData}
use Rattle.wq_eval.specs.Cost.{AnswersAreWithin, StepsAreSaid, steps_in, steps_of}
use Rattle.wq_eval.specs.Answer.{answer_in}
use Rattle.wq_eval.proofs.Answers.{comes, ended, stays}

-- how far a run has come after so many steps, and what it has cost if it has an answer
abbrev HasCost : Raw → KnownKinds → ℕ → ℕ → Outcome → Type 0
HasCost raw lists width k (Running place cells steps) = (k ≤ place) × IsFit raw lists width place cells steps
HasCost raw lists width k (Answered answer steps) = steps ≤ sum_by (most_cost raw width) raw.code
HasCost raw lists width k Trapped = ⊥

-- a step leads further
further : (raw : Raw) (lists : KnownKinds) (width k place : ℕ) (o : Outcome) → k ≤ place → GoesWell raw lists width place o
    → HasCost raw lists width (suc k) o
further raw lists width k place (Running next cells steps) low well = (omega (arith, low, well.0), well.1)
further raw lists width k place (Answered answer steps) low well = well
further raw lists width k place Trapped low well = well

next : (raw : Raw) (item : Item) (lists : KnownKinds) (width k : ℕ) (o : Outcome) → StepsGoWell → IsTyping raw lists → HasWidth raw item width
    → HasCost raw lists width k o → HasCost raw lists width (suc k) (advance raw item o)
next raw item lists width k (Running place cells steps) law typing wide come =
    further raw lists width k place (step raw item place cells steps) come.0 (law raw lists item width typing wide place cells steps come.1)
next raw item lists width k (Answered answer steps) law typing wide come = come
next raw item lists width k Trapped law typing wide come = come

costs : (raw : Raw) (item : Item) (lists : KnownKinds) (width k : ℕ) → RunsBeginWell → StepsGoWell → IsValid raw → IsTyping raw lists → HasWidth raw item width
    → HasCost raw lists width k (after raw item k)
unfolding after
costs raw item lists width zero begin law valid typing wide = (omega arith, begin raw lists width valid typing)
costs raw item lists width (suc k) begin law valid typing wide =
    next raw item lists width k (after raw item k) law typing wide (costs raw item lists width k begin law valid typing wide)

-- after the last place there is only an answer
paid : (raw : Raw) (lists : KnownKinds) (width : ℕ) (o : Outcome) → HasCost raw lists width (length raw.code) o → steps_in o ≤ sum_by (most_cost raw width) raw.code
paid raw lists width (Running place cells steps) come = absurd (omega (arith, come.0, come.1.within))
paid raw lists width (Answered answer steps) come = come
paid raw lists width Trapped come = absurd come

-- a run costs at most the budget for the longest name
one_within : (raw : Raw) (r : RecordData) → RunsBeginWell → StepsGoWell → IsValid raw → length r.name ≤ max_name → steps_of raw r ≤ budget_of raw max_name
unfolding budget_of
one_within raw r begin law valid short =
    let width = width_of raw max_name in
    let wide : HasWidth raw (item_of r) width = record { name = omega (arith, short); texts = omega arith } in
    paid raw valid.typed.0 width (after raw (item_of r) (length raw.code)) (costs raw (item_of r) valid.typed.0 width (length raw.code) begin law valid valid.typed.1 wide)

-- and runs over many files as many times that
pub answers_are_within : RunsBeginWell → StepsGoWell → AnswersAreWithin
answers_are_within begin law raw [] valid short = omega arith
answers_are_within begin law raw (r ∷ rs) valid short =
    omega (
      arith,
      sum_by-cons (steps_of raw) r rs,
      suc-mul (length rs) (budget_of raw max_name),
      one_within raw r begin law valid (short 0 r (omega arith)),
      answers_are_within begin law raw rs valid (λ k d less. short (suc k) d (omega (arith, less))),
    )

-- each answer has the steps that are said
pub steps_are_said : RunsBeginWell → StepsGoWell → StepsAreSaid
steps_are_said begin law raw r answer steps valid given =
    let run = after raw (item_of r) (length raw.code) in
    by (ended raw (item_of r) valid.typed.0 run (comes raw (item_of r) valid.typed.0 (length raw.code) begin law valid valid.typed.1)) (cases_lt (length raw.code) given.0)
  where
    by : ((said : ℕ) × (after raw (item_of r) (length raw.code) ≡ Answered (answer_in (after raw (item_of r) (length raw.code))) said))
        → (length raw.code < given.0) ⊎ (given.0 ≤ length raw.code) → steps ≡ steps_of raw r
    by end (inl early) =
        ap steps_in (sym given.1 ∙ stays raw (item_of r) (length raw.code) given.0 (answer_in (after raw (item_of r) (length raw.code))) end.0 (omega (arith, early)) end.1)
        ∙ sym (ap steps_in end.1)
    by end (inr late) = sym (ap steps_in (stays raw (item_of r) given.0 (length raw.code) answer steps late given.1))
