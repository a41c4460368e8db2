use Rattle.std.proofs.Common.{◌≡◌, ◌≤◌, ◌*◌, take}
use Rattle.std.specs.Prelude.{sum_by}
use Rattle.wq_verify.specs.Budget.{pattern_weight}
use Rattle.wq_verify.proofs.budget.set_weight.Given as goal

abbrev pub invariant-loop-pattern : goal.invariant-loop-pattern
invariant-loop-pattern l =
    record {
      sum : l.total ≡ sum_by pattern_weight (take l.pattern-index l.patterns);
      low : l.total ≤ 256 * l.pattern-index;
    }
