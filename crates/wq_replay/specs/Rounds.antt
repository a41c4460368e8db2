-- A round of the triggers of a root in a world, and the end of a run.
-- From Watchman's documentation of `trigger`; the rounds are this server's own.
use Rattle.std.specs.Prelude.{◌≡◌, ℕ, false, List, [], map, Option, Some, None}
use Rattle.std.specs.Option.{option_and_then}
use Rattle.wq_clock.specs.Instance.{InstanceData}
use Rattle.wq_clock.specs.Run.{instance_of}
use Rattle.wq_follow.specs.Launcher.{LauncherData}
use Rattle.wq_live.specs.Event.{number_of}
use Rattle.wq_live.specs.Table.{RootView, TableData, IsTableOf, root_by_text}
use Rattle.wq_session.specs.At.{ShelfNow}
use Rattle.wq_session.specs.Round.{IsRound}
use Rattle.wq_session.specs.Trigger.{run_in, trigger_called}
use Rattle.wq_view.specs.View.{ViewData}
use Rattle.wq_replay.specs.Runs.{launcher_at, other_runs}
use Rattle.wq_replay.specs.StartLine.{tried_text}
use Rattle.wq_replay.specs.World.{WorldData, SentData, unrefused}

-- a line about a start. It never ends the server
abbrev pub sent_note : List ℕ → SentData
sent_note text = record { client = None; text = text; shuts = false }

-- the world with this shelf and these runs
abbrev pub fired : ShelfNow → List ℕ → WorldData → WorldData
fired shelf runs world = record world { shelf = shelf; runs = runs; refused = None }

-- a round of a root at a view of it. The triggers have their turns, the launcher gives these
-- answers to the starts in turn, and the server sends a line about each start
pub record HasRound (instance : InstanceData) (view : ViewData) (answers : List (Option ℕ))
    (world : WorldData) (sent : List SentData) (after : WorldData) : Type 0 where
  pub shelf : ShelfNow
  pub left : LauncherData
  pub round : IsRound instance view world.shelf (Some (launcher_at answers world.runs)) shelf
      (Some left)
  pub tells : sent ≡ map (λ t. sent_note (tried_text t)) left.tried
  pub is : after ≡ fired shelf left.running world

-- a round of a root, if it is shown
abbrev pub RoundsFound : Option RootView → List (Option ℕ) → WorldData → List SentData → WorldData
    → Type 0
RoundsFound None answers world sent after = (sent ≡ []) × (after ≡ unrefused world)
RoundsFound (Some root) answers world sent after =
    HasRound (instance_of world.run root.number) root.view answers world sent after

-- a round of the triggers of a root
abbrev pub Rounds : List ℕ → List (Option ℕ) → WorldData → List SentData → WorldData → Type 0
Rounds root answers world sent after = (table : TableData) × IsTableOf world.events table
    × RoundsFound (root_by_text root table) answers world sent after

-- the world after the runs of a number have ended
abbrev pub without_running : ℕ → WorldData → WorldData
without_running run world = record world { runs = other_runs run world.runs; refused = None }

-- the run of the command of a trigger of a root, if the root is shown, the trigger is there, and
-- its command was started
abbrev pub trigger_run : List ℕ → List ℕ → WorldData → Option ℕ
trigger_run root name world =
    option_and_then (λ number. run_in (trigger_called number name world.shelf))
    (number_of root world.events)
