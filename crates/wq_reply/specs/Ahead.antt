-- Which files of a view a program keeps, found before someone asks for it.
-- This server's own.
use Rattle.std.specs.Prelude.{◌≡◌, List, Option, All, IfSome, filter}
use Rattle.wq_eval.specs.Answer.{says_yes}
use Rattle.wq_view.specs.Position.{passes_at}
use Rattle.wq_record.specs.RecordData.{RecordData}
use Rattle.wq_reply.specs.declared.ahead.Ahead.{Ahead}

-- what was found is right at a view of these records: it is what the program keeps of the positions
abbrev pub IsAheadAt : List RecordData → Ahead → Type 0
IsAheadAt records ahead =
    ahead.kept.items
    ≡ filter (passes_at (says_yes ahead.program.value) records) ahead.positions.items

-- what was found for some programs, or not, is right at a view of these records
abbrev pub AreAheadAt : List RecordData → List (Option Ahead) → Type 0
AreAheadAt records ahead = All (λ found. IfSome found (IsAheadAt records)) ahead
