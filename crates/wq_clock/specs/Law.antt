-- Laws about reading clock specs, their grammar and printing clock ids.
use Rattle.std.specs.Prelude.{ℕ, List, ◌≡◌, ◌≤◌, ◌↔◌, Some}
use Rattle.wq_base.specs.Limit.{max_number}
use Rattle.wq_clock.specs.Instance.{InstanceData, IsInRange}
use Rattle.wq_clock.specs.ClockText.{clock_text}
use Rattle.wq_clock.specs.ClockSpec.{SpecData, clock_id, clock_spec_of}
use Rattle.wq_clock.specs.Spelling.{IsClockSpelling}

-- a text is read as a clock spec exactly if the grammar has it as a spelling of that clock spec
abbrev pub TextsSayWhatTheySpell : Type 0
TextsSayWhatTheySpell = (text : List ℕ) (spec : SpecData)
    → (clock_spec_of text ≡ Some spec) ↔ IsClockSpelling spec text

-- the text of a clock id is read as that id
abbrev pub PrintedIdsReadBack : Type 0
PrintedIdsReadBack = (instance : InstanceData) (tick : ℕ) → IsInRange instance → tick ≤ max_number
    → clock_spec_of (clock_text instance tick) ≡ Some (clock_id instance tick)

-- two clock ids with one text are the same
abbrev pub SameTextSameId : Type 0
SameTextSameId = (instance other : InstanceData) (tick other_tick : ℕ)
    → IsInRange instance → IsInRange other → tick ≤ max_number → other_tick ≤ max_number
    → clock_text instance tick ≡ clock_text other other_tick
    → (instance ≡ other) × (tick ≡ other_tick)
