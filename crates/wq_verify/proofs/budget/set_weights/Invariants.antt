use Rattle.std.proofs.Common.{◌≡◌, ◌++◌, length, map, true}
use Rattle.std.specs.List.{list_all}
use Rattle.wq_code.specs.Fits.{is_pattern_set}
use Rattle.wq_verify.specs.Budget.{set_weight}
use Rattle.wq_verify.proofs.budget.set_weights.Given as goal

abbrev pub invariant-loop-patterns : goal.invariant-loop-patterns
invariant-loop-patterns l =
    record {
      done : l.weights.items ++ map set_weight l.left ≡ map set_weight l.raw.sets;
      short : list_all is_pattern_set l.left ≡ true;
    }

abbrev pub decreases-loop-patterns : goal.decreases-loop-patterns
decreases-loop-patterns l = length l.left
