-- The runs of a trigger do not overlap: no round starts it again before its run has ended.
-- It is this server's own.
use Rattle.std.specs.Prelude.{◌≡◌, ◌≢◌, ℕ, true, List, [], ◌∷◌, Option, Some, None, is_some}
use Rattle.std.specs.Prelude.{if◌then◌else◌}
use Rattle.std.specs.Str.{bytes_eq}
use Rattle.wq_clock.specs.Run.{RunData, instance_of}
use Rattle.wq_follow.specs.Round.{FiredData, started}
use Rattle.wq_follow.specs.Start.{StartData}
use Rattle.wq_session.specs.Round.{TriggerTurnData}
use Rattle.wq_session.specs.Trigger.{trigger_called}
use Rattle.wq_view.specs.View.{ViewData}
use Rattle.wq_replay.specs.Playing.{Happens, Runs}
use Rattle.wq_replay.specs.Rounds.{HasRound}
use Rattle.wq_replay.specs.World.{WorldData, HappeningData, ended, SentData, new_world}

-- the result of a round for the trigger of a name, if there is one
abbrev pub fired_for : List ℕ → List TriggerTurnData → Option FiredData
fired_for name [] = None
fired_for name (turn ∷ turns) =
    if bytes_eq name turn.name then Some turn.fired else fired_for name turns

-- a round of the root of a number starts the trigger of a name, under this number of a run
abbrev pub StartsTrigger : ℕ → List ℕ → ℕ → WorldData → WorldData → Type 0
StartsTrigger root name run world after =
    (view : ViewData) × (answers : List (Option ℕ)) × (sent : List SentData) × (start : StartData)
    × (had : HasRound (instance_of world.run root) view answers world sent after)
    × (fired_for name (had.round).turns ≡ Some (started run start))

-- the trigger is on the shelf
abbrev pub HasTrigger : ℕ → List ℕ → WorldData → Type 0
HasTrigger root name world = is_some (trigger_called root name world.shelf) ≡ true

-- these happenings come in turn. None of them deletes the trigger, and none is the end of the run
abbrev pub Meanwhile : ℕ → List ℕ → ℕ → WorldData → List HappeningData → WorldData → Type 0
Meanwhile root name run world [] after = after ≡ world
Meanwhile root name run world (happening ∷ later) after =
    (sent : List SentData) × (next : WorldData) × Happens world happening sent next
    × (happening ≢ ended run) × HasTrigger root name next × Meanwhile root name run next later after

-- after a trigger was started, no round starts it before its run has ended, unless a client deletes
-- it. To replace a trigger is not to delete it
abbrev pub RunsDoNotOverlap : Type 0
RunsDoNotOverlap = (server : RunData) (sockname : List ℕ) (earlier later : List HappeningData)
    (sent : List SentData) (world first last after : WorldData) (root : ℕ) (name : List ℕ)
    (run other : ℕ) → Runs (new_world server sockname) earlier sent world
    → StartsTrigger root name run world first → Meanwhile root name run first later last
    → StartsTrigger root name other last after → ⊥
