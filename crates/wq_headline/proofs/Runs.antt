-- A run of a program that may run is never trapped, and costs at most its budget for the name.
use Rattle.std.proofs.Common.{◌≡◌, ℕ, zero, suc, ◌≤◌, length, sum_by, subst, arith}
use Rattle.wq_code.specs.Item.{Item}
use Rattle.wq_code.specs.Machine.{Outcome, Running, Answered, Trapped, advance, step, after}
use Rattle.wq_code.specs.declared.raw.Raw.{Raw}
use Rattle.wq_machine.specs.Item.{item_of}
use Rattle.wq_verify.specs.Budget.{budget_of, most_cost, width_of}
use Rattle.wq_verify.specs.Kinds.{KnownKinds}
use Rattle.wq_verify.specs.Law.{RunsBeginWell, StepsGoWell}
use Rattle.wq_verify.specs.Run.{IsFit, GoesWell, HasWidth}
use Rattle.wq_verify.specs.Typing.{IsTyping, IsValid}
use Rattle.wq_record.specs.RecordData.{RecordData}
use Rattle.wq_eval.specs.Cost.{steps_in, steps_of}

-- a run after so many steps: at a place no earlier, in a state that fits, or at an answer that was
-- paid for; never trapped
abbrev pub IsWellAfter : Raw → KnownKinds → ℕ → ℕ → Outcome → Type 0
IsWellAfter raw lists width k (Running place cells steps) = (k ≤ place) × IsFit raw lists width place cells steps
IsWellAfter raw lists width k (Answered answer steps) = steps ≤ sum_by (most_cost raw width) raw.code
IsWellAfter raw lists width k Trapped = ⊥

-- a step leads further
further : (raw : Raw) (lists : KnownKinds) (width k place : ℕ) (o : Outcome) → k ≤ place → GoesWell raw lists width place o
    → IsWellAfter raw lists width (suc k) o
further raw lists width k place (Running next cells steps) low well = (omega (arith, low, well.0), well.1)
further raw lists width k place (Answered answer steps) low well = well
further raw lists width k place Trapped low well = well

next : (raw : Raw) (item : Item) (lists : KnownKinds) (width k : ℕ) (o : Outcome) → StepsGoWell → IsTyping raw lists → HasWidth raw item width
    → IsWellAfter raw lists width k o → IsWellAfter raw lists width (suc k) (advance raw item o)
next raw item lists width k (Running place cells steps) law typing wide come =
    further raw lists width k place (step raw item place cells steps) come.0 (law raw lists item width typing wide place cells steps come.1)
next raw item lists width k (Answered answer steps) law typing wide come = come
next raw item lists width k Trapped law typing wide come = come

each : (raw : Raw) (item : Item) (lists : KnownKinds) (width k : ℕ) → RunsBeginWell → StepsGoWell → IsValid raw → IsTyping raw lists → HasWidth raw item width
    → IsWellAfter raw lists width k (after raw item k)
unfolding after
each raw item lists width zero begin law valid typing wide = (omega arith, begin raw lists width valid typing)
each raw item lists width (suc k) begin law valid typing wide =
    next raw item lists width k (after raw item k) law typing wide (each raw item lists width k begin law valid typing wide)

-- after the last place there is only an answer
paid : (raw : Raw) (lists : KnownKinds) (width : ℕ) (o : Outcome) → IsWellAfter raw lists width (length raw.code) o → steps_in o ≤ sum_by (most_cost raw width) raw.code
paid raw lists width (Running place cells steps) come = absurd (omega (arith, come.0, come.1.within))
paid raw lists width (Answered answer steps) come = come
paid raw lists width Trapped come = absurd come

-- a run on a file goes well at the width of its name and the program's texts
on_file : (raw : Raw) (r : RecordData) (k : ℕ) → RunsBeginWell → StepsGoWell → (valid : IsValid raw)
    → IsWellAfter raw valid.typed.0 (width_of raw (length r.name)) k (after raw (item_of r) k)
on_file raw r k begin law valid =
    let width = width_of raw (length r.name) in
    let wide : HasWidth raw (item_of r) width = record { name = omega arith; texts = omega arith } in
    each raw (item_of r) valid.typed.0 width k begin law valid valid.typed.1 wide

-- it is never trapped
pub never_trapped : (raw : Raw) (r : RecordData) (k : ℕ) → RunsBeginWell → StepsGoWell → IsValid raw
    → after raw (item_of r) k ≡ Trapped → ⊥
never_trapped raw r k begin law valid trapped =
    subst (IsWellAfter raw valid.typed.0 (width_of raw (length r.name)) k) trapped (on_file raw r k begin law valid)

-- and it costs at most its budget
pub within_budget : (raw : Raw) (r : RecordData) → RunsBeginWell → StepsGoWell → IsValid raw
    → steps_of raw r ≤ budget_of raw (length r.name)
unfolding budget_of
within_budget raw r begin law valid =
    paid raw valid.typed.0 (width_of raw (length r.name)) (after raw (item_of r) (length raw.code)) (on_file raw r (length raw.code) begin law valid)
