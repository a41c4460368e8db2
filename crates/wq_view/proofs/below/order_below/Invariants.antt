-- the rests of the directory and of the name decide
use Rattle.std.proofs.Common.{◌≡◌, drop}
use Rattle.wq_view.specs.Below.{order_below}
use Rattle.wq_view.proofs.below.order_below.Given as goal

abbrev pub invariant-loop-step : goal.invariant-loop-step
invariant-loop-step l =
    order_below (drop l.step-index l.dir) l.left ≡ order_below l.dir l.name
