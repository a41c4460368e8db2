-- The knowledge that threads have of the value that they share: each seat has seen a beginning of
-- its list. No public document defines it.
use Rattle.std.specs.Prelude.{◌≡◌, ℕ, List, Option, Some, None}
use mathlib.Core.Option.{some}
use lib.ListN.{get_elem?}
use Rattle.wq_live.specs.Log.{LogData, BeginsLog}

-- a seat that saw nothing yet knows nothing, and each other seat knows a beginning
abbrev pub Knows : Option LogData → LogData → Type 0
Knows None log = Unit {0}
Knows (Some seen) log = BeginsLog seen log

-- each seat knows a beginning of the list that is shown
abbrev pub AllBegin : LogData → List (Option LogData) → Type 0
AllBegin log views = (seat : ℕ) (known : Option LogData) → get_elem? views seat ≡ some known
    → Knows known log

-- the list that was known begins the list that is known afterwards, which is the one that is shown
abbrev pub Sees : Option LogData → LogData → Option LogData → Type 0
Sees before shown after = Knows before shown × (after ≡ Some shown)
