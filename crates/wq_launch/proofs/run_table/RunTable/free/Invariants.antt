-- the numbers that are left give the same as all
use Rattle.std.proofs.Common.{◌≡◌, ◌+◌, ◌-◌}
use Rattle.wq_launch.specs.Limit.{max_runs}
use Rattle.wq_launch.specs.Runs.{first_free, number_after}
use Rattle.wq_launch.proofs.run_table.RunTable.free.Given as goal

abbrev pub invariant-loop : goal.invariant-loop
invariant-loop l =
    first_free (max_runs + 1 - l.counter) (number_after l.number) l.self.running
    ≡ first_free (max_runs + 1) (number_after l.fn.self.last) l.fn.self.running
