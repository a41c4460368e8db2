-- One run of the server, as plain numbers, and the roots that it watches. The source is Watchman's
-- documentation of clockspecs (clock ids).
use Rattle.std.specs.Prelude.{ℕ}
use Rattle.wq_clock.specs.Instance.{InstanceData}
use Rattle.wq_clock.specs.declared.run.Run.{Run}

-- the second at which the server started, and its process
pub record RunData : Type 0 where
  pub start : ℕ
  pub pid : ℕ

-- the numbers of a `Run`
abbrev pub run_data : Run → RunData
run_data run = record { start = run.start; pid = run.pid }

-- the root of a number in a run
abbrev pub instance_of : RunData → ℕ → InstanceData
instance_of run number = record { start = run.start; pid = run.pid; root = number }
