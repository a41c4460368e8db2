-- The programs on the shelf of a world may run, if the asks there are those of events.
-- It is this server's own.
use Rattle.std.specs.Prelude.{◌≡◌, ℕ, List, [], ◌∷◌, Some}
use Rattle.wq_clock.specs.Run.{RunData}
use Rattle.wq_code.specs.declared.raw.Raw.{Raw}
use Rattle.wq_registry.specs.ByName.{under}
use Rattle.wq_ask.specs.Reading.{Asks}
use Rattle.wq_stream.specs.declared.event.Event.{Event}
use Rattle.wq_verify.specs.Typing.{IsValid}
use Rattle.wq_replay.specs.Playing.{Runs}
use Rattle.wq_replay.specs.World.{WorldData, HappeningData, asked, SentData, new_world}

-- the ask of a happening is one of an event
abbrev pub IsOfEvent : HappeningData → Type 0
IsOfEvent (asked client ask) = (event : Event) × Asks event ask
IsOfEvent _ = Unit {0}

-- and so is each ask of happenings
abbrev pub AreAsksOfEvents : List HappeningData → Type 0
AreAsksOfEvents [] = Unit {0}
AreAsksOfEvents (happening ∷ later) = IsOfEvent happening × AreAsksOfEvents later

-- each program under a name on the shelf of a world may run
abbrev pub ProgramsAreValid : Type 0
ProgramsAreValid = (run : RunData) (sockname : List ℕ) (happenings : List HappeningData)
    (sent : List SentData) (after : WorldData) (name : List ℕ) (raw : Raw)
    → Runs (new_world run sockname) happenings sent after → AreAsksOfEvents happenings
    → under name (after.shelf).programs ≡ Some raw → IsValid raw
