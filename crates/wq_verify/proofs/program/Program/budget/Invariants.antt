use Rattle.std.proofs.Common.{◌≡◌, ◌≤◌, ◌*◌, take}
use Rattle.std.specs.Prelude.{sum_by}
use Rattle.wq_verify.specs.Budget.{most_cost}
use Rattle.wq_verify.proofs.program.Program.budget.Given as goal

abbrev pub invariant-loop-op : goal.invariant-loop-op
invariant-loop-op l =
    record {
      sum : l.total ≡ sum_by (most_cost l.raw l.width) (take l.op-index l.op-items);
      low : l.total ≤ 17596481007616 * l.op-index;
    }
