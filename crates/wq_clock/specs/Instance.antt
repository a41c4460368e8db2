-- An instance, as plain numbers: one run of the server that watches one root. The source is
-- Watchman's documentation of clockspecs (clock ids).
use Rattle.std.specs.Prelude.{ℕ, ◌≤◌}
use Rattle.wq_base.specs.Limit.{max_number}
use Rattle.wq_clock.specs.declared.instance.Instance.{Instance}

-- the second at which the server started, its process, and the number of the root
pub record InstanceData : Type 0 where
  pub start : ℕ
  pub pid : ℕ
  pub root : ℕ

-- the numbers of an `Instance`
abbrev pub instance_data : Instance → InstanceData
instance_data instance =
    record { start = instance.start; pid = instance.pid; root = instance.root }

-- each number is one that a clock id may hold
pub record IsInRange (instance : InstanceData) : Type 0 where
  pub start : instance.start ≤ max_number
  pub pid : instance.pid ≤ max_number
  pub root : instance.root ≤ max_number
