-- The lines are played from the front.
use Rattle.std.proofs.Common.{Ok, Err, true, false, ap, arith, ◌∙◌}
use Rattle.wq_replay.proofs.Ending.{ends_as, ends_handed, ends_server, ends_stepping, ends_taking, ends_too_long, ends_untaken, ends_well, goes_on, holds_first, stepped_as}
use Rattle.wq_replay.proofs.player.play.Goals as goal

pub loop-number-init : goal.loop-number-init
loop-number-init g c = (omega arith, holds_first _ _ _ c.requires)

pub returns-in_err-taken : goal.returns-in_err-taken
returns-in_err-taken g c =
    ends_handed _ _ _ _ c.in_err-taken.field-0.0 c.from_residual.result c.from_residual.ensures
    (ends_taking _ _ _ _ _ c.loop-number.size c.loop-number.number c.loop-number.stage c.in_err-taken.field-0.0 c.loop-number.invariant.1 c.in_err-taken.ensures.within)

pub returns-then-taken-eq0 : goal.returns-then-taken-eq0
returns-then-taken-eq0 g c =
    ends_well _ _ _ _ (g.R.Read.remaining c.next_line.new.reader) c.loop-number.size c.loop-number.number c.in_ok-taken.taken c.loop-number.stage c.next_line.new.line.items c.loop-number.invariant.1 c.loop-number.invariant.0 c.if-taken-eq0.true c.in_ok-taken.ensures.done

pub returns-then-size-gt-MAX_SCRIPT : goal.returns-then-size-gt-MAX_SCRIPT
returns-then-size-gt-MAX_SCRIPT g c =
    ends_too_long _ _ _ _ (g.R.Read.remaining c.next_line.new.reader) c.loop-number.size c.loop-number.number c.in_ok-taken.taken c.loop-number.stage c.next_line.new.line.items c.loop-number.invariant.1 c.loop-number.invariant.0 (omega arith) c.in_ok-taken.ensures.done

pub returns-in-Ok-false : goal.returns-in-Ok-false
returns-in-Ok-false g c =
    ends_server _ _ _ _ _ _ c.loop-number.size c.loop-number.number c.in_ok-taken.taken c.loop-number.stage c.step.new.stage c.next_line.new.line.items c.loop-number.invariant.1 (omega arith) c.in_ok-taken.ensures.done
    (stepped_as c.loop-number.stage c.step.new.stage _ _ c.deref.result.now c.next_line.new.line.items c.step.result (Ok false) c.deref.ensures.value (c.in-Ok-false.is ∙ ap Ok c.in-Ok-false.field-0-test) c.step.ensures)

pub returns-in-Err : goal.returns-in-Err
returns-in-Err g c =
    ends_as _ _ _ _ _ _ c.at.ensures
    (ends_stepping _ _ _ _ _ _ c.loop-number.size c.loop-number.number c.in_ok-taken.taken c.loop-number.stage c.step.new.stage c.next_line.new.line.items _ c.in-Err.fault c.loop-number.invariant.1 (omega arith) c.in_ok-taken.ensures.done
    (stepped_as c.loop-number.stage c.step.new.stage _ _ c.deref.result.now c.next_line.new.line.items c.step.result (Err c.in-Err.fault) c.deref.ensures.value c.in-Err.is c.step.ensures))

pub loop-number-preserved : goal.loop-number-preserved
loop-number-preserved g c = (
  omega arith,
  goes_on _ _ _ _ _ _ c.loop-number.size c.loop-number.number c.in_ok-taken.taken c.loop-number.stage c.step.new.stage c.next_line.new.line.items c.loop-number.invariant.1 (omega arith) c.in_ok-taken.ensures.done
      (stepped_as c.loop-number.stage c.step.new.stage _ _ c.deref.result.now c.next_line.new.line.items c.step.result (Ok true) c.deref.ensures.value (c.in-Ok-true.is ∙ ap Ok c.in-Ok-true.field-0-test) c.step.ensures),
)

pub returns : goal.returns
returns g c = ends_untaken _ _ _ _ c.loop-number.size c.loop-number.number c.loop-number.stage c.loop-number.invariant.1
