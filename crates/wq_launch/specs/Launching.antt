-- The launcher that starts commands of the system, and the commands that nobody attends yet.
-- It is this server's own.
use Rattle.std.specs.Prelude.{◌≡◌, ℕ, nat_lt, if◌then◌else◌, List, [], ◌∷◌, ◌++◌, length}
use Rattle.std.specs.Prelude.{Option, Some, None, Result, Ok, Err}
use Rattle.wq_follow.specs.Start.{EnvData, StartData}
use Rattle.wq_follow.specs.declared.launch.LaunchFault.{LaunchFault}
use Rattle.wq_launch.specs.FailingStarts.{FailingData, after_failure}
use Rattle.wq_launch.specs.Limit.{max_runs}
use Rattle.wq_launch.specs.StartedRun.{StartedRun}

-- the commands that were started, if they are shown, with one more
abbrev pub with_spawned : StartData → Option (List StartData) → Option (List StartData)
with_spawned start None = None
with_spawned start (Some starts) = Some (starts ++ start ∷ [])

-- the launcher: the commands that it had started, if they are shown, the runs that nobody attends
-- yet, the count of its failures, and the starts that failed
pub record LauncherNow : Type 0 where
  pub spawned : Option (List StartData)
  pub waiting : List StartedRun
  pub failures : ℕ
  pub failing : FailingData

-- the runs that nobody attends yet, once a command was started or not
abbrev pub with_waiting : StartData → Result ℕ LaunchFault → List StartedRun → List StartedRun
with_waiting start (Ok number) waiting =
    waiting ++ record { number = number; input = start.input } ∷ []
with_waiting start (Err fault) waiting = waiting

-- the runs that nobody attends yet, once one of them was given back
abbrev pub given_back : StartedRun → List StartedRun → List StartedRun
given_back run waiting = if nat_lt (length waiting) max_runs then waiting ++ run ∷ [] else waiting

-- the failing starts after one with this environment failed, for a reason in some words
abbrev pub KeepsFailure : EnvData → FailingData → FailingData → Type 0
KeepsFailure env old new = (words : List ℕ)
    × (new ≡ after_failure record { root = env.root; trigger = env.trigger; words = words } old)
