-- What a place passes, all places before it pass; what it does not pass, none behind it passes.
use Rattle.std.proofs.Common.{◌<◌, ◌+◌, ◌-◌, ◌/◌, length, arith}
use Rattle.wq_view.proofs.Outside.{nth_found, rises_far}
use Rattle.wq_view.proofs.order.nth_outside.Goals as goal

pub loop-low-preserved-then-rising-mid : goal.loop-low-preserved-then-rising-mid
loop-low-preserved-then-rising-mid c =
    let mid = c.loop-low.low + (c.loop-low.high - c.loop-low.low) / 2 in
    let within : mid < length c.args.rising.now = omega (arith, c.loop-low-test.true, c.loop-low.invariant.bound) in
    record {
      ends = omega (arith, c.loop-low-test.true);
      bound = c.loop-low.invariant.bound;
      below = λ i h. omega (arith, rises_far c.args.rising.now c.requires.rises i mid (omega (arith, h)) within, c.if-rising-mid.true);
      above = c.loop-low.invariant.above;
    }

pub loop-low-preserved : goal.loop-low-preserved
loop-low-preserved c =
    let mid = c.loop-low.low + (c.loop-low.high - c.loop-low.low) / 2 in
    record {
      ends = omega arith;
      bound = omega (arith, c.loop-low-test.true, c.loop-low.invariant.bound);
      below = c.loop-low.invariant.below;
      above = λ i le lt. omega (arith, rises_far c.args.rising.now c.requires.rises mid i le lt, c.if-rising-mid.false);
    }

pub returns : goal.returns
returns c = nth_found c.args.rising.now c.args.place c.loop-low.low (omega (arith, c.loop-low.invariant.ends, c.loop-low.invariant.bound)) c.loop-low.invariant.below (λ i le lt. c.loop-low.invariant.above i (omega (arith, le, c.loop-low-test.false)) lt)
