-- The meaning of the code's stage, and the result of a step of a replay there.
-- It is this server's own.
use Rattle.std.specs.Prelude.{◌≡◌, ◌≢◌, ℕ, Bool, true, false, List, [], Option, option_map, Result, Ok, Err}
use Rattle.std.specs.Io.KnownBytes.{Appends}
use Rattle.wq_replay.specs.Replay.{DoesAll, DoesLine, Shuts, StopsAll, StopsWriting}
use Rattle.wq_replay.specs.Stage.{DraftData, StageData, Turn, malformed}
use Rattle.wq_replay.specs.Stands.{Stands}
use Rattle.wq_replay.specs.World.{HappeningData}
use Rattle.wq_replay.specs.declared.fault.StepFault.{StepFault}
use Rattle.wq_replay.specs.declared.fault.StepFault.TheVariants.{Malformed, Write, NoMemory}
use Rattle.wq_replay.specs.declared.stage.OpenListing.{OpenListing}
use Rattle.wq_replay.specs.declared.stage.Stage.{Stage}

-- an open listing
abbrev pub draft_data : OpenListing → DraftData
draft_data draft =
    record { crawls = draft.crawls; second = draft.second; rows = draft.rows.items }

-- the code means this stage of the script
pub record IsAt (code : Stage) (stage : StageData) : Type 0 where
  pub world : Stands stage.world code.world
  pub tree : stage.tree ≡ code.tree
  pub draft : stage.draft ≡ option_map draft_data code.draft
  pub next : stage.next ≡ code.next

-- the result of a turn at a stage. Either it was taken: this was written, and the code means the
-- stage that it leads to. Or it ends the server, or the line is malformed, or its reply was not
-- written whole. Or memory ran out before anything
abbrev pub TakesTurn : StageData → Turn → Option (List ℕ) → Option (List ℕ)
    → Result Bool StepFault → Stage → Type 0
TakesTurn at turn before after (Ok true) code = (written : List ℕ) × (next : StageData)
    × Appends before after written × DoesLine at turn written next × IsAt code next
TakesTurn at turn before after (Ok false) code = Shuts at turn before after
TakesTurn at turn before after (Err Malformed) code = (turn ≡ malformed) × Appends before after []
TakesTurn at turn before after (Err Write) code = StopsWriting at turn before after
TakesTurn at turn before after (Err NoMemory) code = (turn ≢ malformed) × Appends before after []

-- the result of happenings at a stage. They never end the server
abbrev pub TakesAll : StageData → List HappeningData → Option (List ℕ) → Option (List ℕ)
    → Result Bool StepFault → Stage → Type 0
TakesAll at happenings before after (Ok true) code = (written : List ℕ) × (next : StageData)
    × Appends before after written × DoesAll at happenings written next × IsAt code next
TakesAll at happenings before after (Ok false) code = ⊥
TakesAll at happenings before after (Err Malformed) code = ⊥
TakesAll at happenings before after (Err Write) code = StopsAll at happenings before after
TakesAll at happenings before after (Err NoMemory) code = Appends before after []
