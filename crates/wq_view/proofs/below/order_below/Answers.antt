-- The name ends within the directory.
use Rattle.std.proofs.Common.{drop, sym, ◌∙◌}
use Rattle.wq_view.proofs.NamesBelow.{ended}
use Rattle.wq_view.proofs.below.order_below.Goals as goal

pub returns-in-None : goal.returns-in-None
returns-in-None c =
    sym (ended (drop c.loop-step.step-index c.args.dir.now) c.loop-step.left.now c.in-None.ensures.cases) ∙ c.loop-step.invariant
