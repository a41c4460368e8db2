use Rattle.std.proofs.Common.{◌≤◌, length}
use Rattle.wq_glob.proofs.EndLemmas.{IsEndRow}
use Rattle.wq_glob.specs.declared.rules.Rules.{Rules}
use Rattle.wq_glob.proofs.row.fill_end.Given as goal

abbrev pub invariant-loop-low : goal.invariant-loop-low
invariant-loop-low l = record { within : l.low ≤ length l.steps; ends : (f : Rules) → IsEndRow f l.steps l.row l.low }

abbrev pub decreases-loop-low : goal.decreases-loop-low
decreases-loop-low l = l.low
