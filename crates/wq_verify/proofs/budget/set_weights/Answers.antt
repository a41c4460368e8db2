use Rattle.std.proofs.Common.{refl}
use Rattle.wq_verify.proofs.Budgets.{sets_fit}
use Rattle.wq_verify.proofs.budget.set_weights.Goals as goal

pub loop-patterns-init : goal.loop-patterns-init
loop-patterns-init c =
    record {
      done = rw (c.in_ok-weights.ensures.items, c.as_slice-left.ensures) refl;
      short = rw c.as_slice-left.ensures (sets_fit c.args.raw.now c.requires);
    }
