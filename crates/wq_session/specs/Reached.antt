-- The shelves that sessions may find when many share one.
-- It is this server's own.
use Rattle.std.specs.Prelude.{◌≡◌, ℕ, List, [], ◌∷◌, Option, Some}
use Rattle.wq_clock.specs.Instance.{InstanceData}
use Rattle.wq_code.specs.declared.raw.Raw.{Raw}
use Rattle.wq_follow.specs.Launcher.{LauncherData}
use Rattle.wq_registry.specs.ByName.{under}
use Rattle.wq_registry.specs.History.{after_all}
use Rattle.wq_registry.specs.Shelf.{blank, cursor_unset}
use Rattle.wq_session.specs.Accepted.{CallNow}
use Rattle.wq_session.specs.Answer.{TakesAsk}
use Rattle.wq_session.specs.Round.{IsRound}
use Rattle.wq_verify.specs.Typing.{IsValid}
use Rattle.wq_view.specs.View.{ViewData}
use Rattle.wq_ask.specs.HandedIn.{HandsInValid}
use Rattle.wq_ask.specs.declared.ask.Ask.{Ask}
use Rattle.wq_session.specs.Work.{WorkData}
use Rattle.wq_crawl.specs.At.{AtData}
use Rattle.wq_session.specs.At.{ShelfNow}

-- an act at a shelf: a session takes an ask, at a root that is looked at or at none, and begins
-- work; or it unsets a cursor; or the triggers of a root have a round, at a view of it
pub data TurnData : Type 0 where
  takes : Ask → Option AtData → WorkData → TurnData
  unsets : (root : ℕ) (name : List ℕ) → TurnData
  rounds : InstanceData → ViewData → (shown : Option LauncherData) → (left : Option LauncherData)
      → TurnData

-- an act leads from one shelf to another. An ask hands in no program that may not run
abbrev pub Turns : TurnData → ShelfNow → ShelfNow → Type 0
Turns (takes ask at work) before after = HandsInValid ask × TakesAsk ask at before work after
Turns (unsets root name) before after = after ≡ cursor_unset root name before
Turns (rounds instance view shown left) before after = IsRound instance view before shown after left

-- the acts, one after the other, lead from an empty shelf to this one; the last is first in the
-- list
abbrev pub LeadsToShelf : List ℕ → List TurnData → ShelfNow → Type 0
LeadsToShelf sockname [] shelf = shelf ≡ blank sockname
LeadsToShelf sockname (last ∷ earlier) shelf =
    (before : ShelfNow) × LeadsToShelf sockname earlier before × Turns last before shelf

-- the acts of sessions and rounds lead to the shelf
unfoldable pub IsReached : ShelfNow → Type 0
IsReached shelf = (sockname : List ℕ) × (turns : List TurnData) × LeadsToShelf sockname turns shelf

-- so accepted calls lead to each such shelf
abbrev pub ReachedByCalls : Type 0
ReachedByCalls = (shelf : ShelfNow) → IsReached shelf
    → (sockname : List ℕ) × (calls : List CallNow) × (shelf ≡ after_all calls (blank sockname))

-- each program under a name on such a shelf may run
abbrev pub ReachedProgramsAreValid : Type 0
ReachedProgramsAreValid = (shelf : ShelfNow) (name : List ℕ) (raw : Raw) → IsReached shelf
    → under name shelf.programs ≡ Some raw → IsValid raw
