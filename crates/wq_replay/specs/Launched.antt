-- The meaning of the code's types of runs and of the launcher in memory.
-- It is this server's own.
use Rattle.std.specs.Prelude.{ℕ, Bool, true, false, List, [], ◌∷◌, ◌++◌, map, Option, Some, None}
use Rattle.wq_follow.specs.Launcher.{LauncherData, TriedData}
use Rattle.wq_follow.specs.Started.{start_data}
use Rattle.wq_follow.specs.declared.start.Start.{Start}
use Rattle.wq_replay.specs.declared.launcher.MemoryLauncher.{MemoryLauncher}
use Rattle.wq_replay.specs.declared.launcher.Tried.{Tried}
use Rattle.wq_replay.specs.declared.runs.RunSet.{RunSet}

-- the numbers of the runs that go on
abbrev pub runs_data : RunSet → List ℕ
runs_data runs = runs.running.items

-- a start that was tried
abbrev pub tried_data : Tried → TriedData
tried_data tried = record { start = start_data tried.start; run = tried.run }

-- starts that were tried
abbrev pub all_tried : List Tried → List TriedData
all_tried tried = map tried_data tried

-- starts that were tried, and one more
abbrev pub with_tried : Start → Option ℕ → List Tried → List Tried
with_tried start run tried = tried ++ record { start = start; run = run } ∷ []

-- the launcher
abbrev pub launcher_data : MemoryLauncher → LauncherData
launcher_data l = record {
  answers = l.answers.items;
  running = runs_data l.runs;
  tried = all_tried l.tried.items;
}

-- the launcher, unless memory ran out for a start
abbrev pub shown_unless : Bool → LauncherData → Option LauncherData
shown_unless true l = None
shown_unless false l = Some l

-- the launcher that it shows
abbrev pub launcher_shown : MemoryLauncher → Option LauncherData
launcher_shown l = shown_unless l.spent (launcher_data l)
