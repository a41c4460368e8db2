-- A round of the triggers of a root: each in turn starts its command, if that is not running and
-- files changed.
-- From Watchman's documentation of `trigger`; the rounds are this server's own.
use Rattle.std.specs.Prelude.{◌≡◌, ◌<◌, ◌≤◌, ◌⊎◌, ℕ, List, [], ◌∷◌, ◌++◌, length, Option, MatchOption}
use Rattle.wq_clock.specs.Instance.{InstanceData}
use Rattle.wq_follow.specs.Launcher.{LauncherData, most_failures}
use Rattle.wq_follow.specs.Round.{Agrees, CountsFailure, FiredData, Fires, TriggerData, failed}
use Rattle.wq_follow.specs.Start.{StartData}
use Rattle.wq_registry.specs.ByName.{ByName}
use Rattle.wq_registry.specs.History.{adds_trigger, after_all}
use Rattle.wq_registry.specs.Shelf.{blank, root_changed, triggers_of}
use Rattle.wq_view.specs.View.{ViewData}
use Rattle.wq_session.specs.Accepted.{CallNow}
use Rattle.wq_crawl.specs.At.{AtData}
use Rattle.wq_session.specs.At.{ShelfNow}

-- the part of a round for one trigger: its name, the action, and the trigger then
pub record TriggerTurnData : Type 0 where
  pub name : List ℕ
  pub fired : FiredData
  pub after : TriggerData

-- the shelf with other triggers of a root
abbrev pub with_triggers : ℕ → ByName TriggerData → ShelfNow → ShelfNow
with_triggers root ts shelf = root_changed root (λ r. record r { triggers = ts }) shelf

-- the trigger between these others has its turn, on a shelf, at a place; the launcher is then in
-- this state, and its count of failures is this
abbrev pub HasTurn : InstanceData → ViewData → ShelfNow → ℕ → Option LauncherData → ℕ → ShelfNow
    → Option LauncherData → ℕ → Type 0
HasTurn instance view shelf place shown count after left counted =
    (front : ByName TriggerData) (t : List ℕ × TriggerData) (later : ByName TriggerData)
    → triggers_of instance.root shelf ≡ front ++ t ∷ later → length front ≡ place
    → (turn : TriggerTurnData) × (turn.name ≡ t.0) × Fires instance view t.1 turn.fired turn.after
    × Agrees turn.fired (t.1).running shown left
    × (after ≡ with_triggers instance.root (front ++ (t.0, turn.after) ∷ later) shelf)
    × CountsFailure turn.fired count counted

-- each trigger had its turn, one after the other, at a view; the launcher, if it is shown, is
-- then in this state
abbrev pub HaveTurns : InstanceData → ViewData → ByName TriggerData → Option LauncherData
    → List TriggerTurnData → Option LauncherData → Type 0
HaveTurns instance view [] shown [] left = left ≡ shown
HaveTurns instance view (t ∷ later) shown (turn ∷ turns) left =
    (turn.name ≡ t.0) × Fires instance view t.1 turn.fired turn.after
    × ((next : Option LauncherData) × Agrees turn.fired (t.1).running shown next
    × HaveTurns instance view later next turns left)
HaveTurns instance view _ shown _ left = ⊥

-- the count of a launcher's failures before and after turns: it rose in each turn whose start
-- failed, and in the others it stayed
abbrev pub CountFailures : List TriggerTurnData → ℕ → ℕ → Type 0
CountFailures [] before after = after ≡ before
CountFailures (turn ∷ turns) before after =
    (next : ℕ) × CountsFailure turn.fired before next × CountFailures turns next after

-- the triggers after these turns
abbrev pub after_turns : List TriggerTurnData → ByName TriggerData
after_turns [] = []
after_turns (turn ∷ turns) = (turn.name, turn.after) ∷ after_turns turns

-- a round of the root of an instance, at a view of it
pub record IsRound (instance : InstanceData) (view : ViewData) (shelf : ShelfNow)
    (shown : Option LauncherData) (after : ShelfNow) (left : Option LauncherData) : Type 0 where
  pub turns : List TriggerTurnData
  pub had : HaveTurns instance view (triggers_of instance.root shelf) shown turns left
  pub is : after ≡ with_triggers instance.root (after_turns turns) shelf

-- a start failed in one of these turns
abbrev pub HasFailure : List TriggerTurnData → Type 0
HasFailure [] = ⊥
HasFailure (turn ∷ turns) =
    ((start : StartData) × (turn.fired ≡ failed start)) ⊎ HasFailure turns

-- over turns in which a start failed, the count rose; at the greatest count it may have risen
abbrev pub FailedStartsAreCounted : Type 0
FailedStartsAreCounted = (turns : List TriggerTurnData) (before after : ℕ)
    → CountFailures turns before after → HasFailure turns
    → (before < after) ⊎ (most_failures ≤ after)

-- a round of the root of an instance, and the count of its launcher's failures before and after it
abbrev pub IsCountedRound : InstanceData → ViewData → ShelfNow → Option LauncherData → ℕ → ShelfNow
    → Option LauncherData → ℕ → Type 0
IsCountedRound instance view shelf shown count after left counted =
    (round : IsRound instance view shelf shown after left) × CountFailures round.turns count counted

-- a round of the root that is looked at, at its view; if it shows none, nothing changes
abbrev pub RoundsAt : AtData → ShelfNow → Option LauncherData → ℕ → ShelfNow → Option LauncherData
    → ℕ → Type 0
RoundsAt at shelf shown count after left counted =
    MatchOption at.view ((after ≡ shelf) × (left ≡ shown) × (counted ≡ count))
    (λ view. IsCountedRound at.instance view shelf shown count after left counted)

-- the calls of turns: each puts its trigger under its name again
abbrev pub turn_calls : ℕ → List TriggerTurnData → List CallNow
turn_calls root [] = []
turn_calls root (turn ∷ turns) = adds_trigger root turn.name turn.after ∷ turn_calls root turns

-- a round on a shelf that calls lead to is a list of calls: it leaves the result of those calls
abbrev pub RoundsAreCalls : Type 0
RoundsAreCalls = (instance : InstanceData) (view : ViewData) (calls : List CallNow)
    (sockname : List ℕ) (shown : Option LauncherData) (after : ShelfNow)
    (left : Option LauncherData)
    → (round : IsRound instance view (after_all calls (blank sockname)) shown after left)
    → after ≡ after_all (turn_calls instance.root round.turns) (after_all calls (blank sockname))
