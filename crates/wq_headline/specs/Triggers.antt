-- The starts of triggers in a world: each is for exactly the files that changed since the last
-- start that succeeded, and nothing is missed.
-- From Watchman's documentation of `trigger`; that a failed start moves nothing is this server's
-- own.
use Rattle.std.specs.Prelude.{◌≡◌, ◌⊎◌, ◌<◌, ◌≤◌, ℕ, true, List, [], ◌∷◌, ◌++◌, All, map}
use Rattle.std.specs.Prelude.{Option, Some, None, Ok}
use Rattle.wq_clock.specs.Instance.{InstanceData}
use Rattle.wq_clock.specs.Run.{RunData, instance_of}
use Rattle.wq_clock.specs.declared.bound.Bound.TheVariants.{Fresh}
use Rattle.wq_code.specs.declared.raw.Raw.{Raw}
use Rattle.wq_follow.specs.Batch.{FollowerData, listing, told_up_to, untold}
use Rattle.wq_follow.specs.Interval.{Adjoin, ToldData, is_matched, told_at}
use Rattle.wq_follow.specs.Missing.{IsAmong, IsToldOnce, end_of}
use Rattle.wq_follow.specs.Round.{FiredData, Fires, TriggerData, failed, started}
use Rattle.wq_follow.specs.Start.{OrderData, StartData, start_of}
use Rattle.wq_live.specs.Event.{number_of, passes_over}
use Rattle.wq_live.specs.declared.event.RootEvent.{RootEvent}
use Rattle.wq_query.specs.Query.{QueryData}
use Rattle.wq_reply.specs.Plan.{PlanData}
use Rattle.wq_query.specs.Reading.{asks as query_of}
use Rattle.wq_registry.specs.ByName.{ByName}
use Rattle.wq_registry.specs.Shelf.{triggers_of}
use Rattle.wq_replay.specs.Playing.{Happens, Runs}
use Rattle.wq_replay.specs.Rounds.{sent_note}
use Rattle.wq_replay.specs.StartLine.{failed_text, started_text}
use Rattle.wq_replay.specs.World.{HappeningData, SentData, WorldData, new_world, round}
use Rattle.wq_session.specs.Round.{with_triggers}
use Rattle.wq_view.specs.History.{History}
use Rattle.wq_record.specs.RecordData.{RecordData}
use Rattle.wq_view.specs.View.{IsViewOf, ViewData}
use Rattle.wq_headline.specs.Followers.{AreViewsOf, MomentsAreExact, SubscriptionsAreExact}
use Rattle.wq_headline.specs.Followers.{WereSent, telling}

-- a start for these files, if there are any
abbrev pub start_if : List RecordData → StartData → List StartData
start_if [] start = []
start_if (file ∷ files) start = start ∷ []

-- the starts for batches that were told: one for each that has files
abbrev pub starts_told : OrderData → InstanceData → List ToldData → List StartData
starts_told order instance [] = []
starts_told order instance (t ∷ later) =
    start_if (t.batch).files (start_of order instance t.batch) ++ starts_told order instance later

-- the line about a start that succeeded
abbrev pub start_line : StartData → SentData
start_line start = sent_note (started_text start)

-- the plan of a trigger with this query and this program, if its query names one
abbrev pub trigger_plan : QueryData → Option Raw → PlanData
trigger_plan query program = record { query = query; bound = Fresh; program = program }

-- the follower of a plan after these batches
abbrev pub follower_after : PlanData → List ToldData → FollowerData
follower_after plan [] = untold plan
follower_after plan (first ∷ later) = told_up_to (end_of (first.view).tick later) (untold plan)

-- the first of these batches has the files of the plan. Each later one has exactly the files that
-- match and whose last change lies in its interval, which begins at the end of the one before it
abbrev pub TellAll : PlanData → List ToldData → Type 0
TellAll plan [] = Unit {0}
TellAll plan (first ∷ later) =
    (first.batch ≡ listing plan first.view) × Adjoin (first.view).tick (is_matched plan) later

-- they miss nothing: exactly one batch has each matching file of a view of the whole history that
-- changed last between the first batch and the last
abbrev pub MissNothing : PlanData → History → List ToldData → Type 0
MissNothing plan history [] = Unit {0}
MissNothing plan history (first ∷ later) = (view : ViewData) (r : RecordData)
    → IsViewOf history view → IsAmong r view.records → is_matched plan r ≡ true
    → (first.view).tick < r.otick → r.otick ≤ end_of (first.view).tick later
    → IsToldOnce r later

-- all starts of a trigger of the root of this number: one for each batch that has files. The
-- batches were made at views of the root, and the next one begins at the end of the last
pub record IsTriggered (run : RunData) (number : ℕ) (events : List RootEvent)
    (sent : List SentData) (t : TriggerData) : Type 0 where
  -- the query that its object asks, and the program that this names, if it names one
  pub query : QueryData
  pub program : Option Raw
  pub asks : query_of (instance_of run number) t.object ≡ Ok query
  pub plan : PlanData
  pub planned : plan ≡ trigger_plan query program
  pub views : List ViewData
  pub are : AreViewsOf (passes_over number events) views
  pub told : List ToldData
  pub is : told ≡ told_at (map telling views) (untold plan)
  pub sends : WereSent (map start_line (starts_told t.order (instance_of run number) told)) sent
  pub exact : TellAll plan told
  pub once : MissNothing plan (passes_over number events) told
  pub next : t.follower ≡ follower_after plan told

-- whatever happened in a world before: each trigger that is on the shelf then was started for
-- exactly the files that match and changed, each time since the start before that succeeded. Up
-- to the last one no file that changed is missed
abbrev pub TriggersAreExact : Type 0
TriggersAreExact = (run : RunData) (sockname : List ℕ) (happenings : List HappeningData)
    (sent : List SentData) (world : WorldData) (number : ℕ)
    → Runs (new_world run sockname) happenings sent world
    → All (λ x. IsTriggered run number world.events sent x.1) (triggers_of number world.shelf)

-- the line about a start that failed
abbrev pub failed_start_line : StartData → SentData
failed_start_line start = sent_note (failed_text start)

-- the line about the start of a turn, if the turn had one
abbrev pub turn_lines : FiredData → List SentData
turn_lines (started run start) = start_line start ∷ []
turn_lines (failed start) = failed_start_line start ∷ []
turn_lines _ = []

-- triggers have their turns at a view, one after the other, and nothing else is sent. One whose
-- command runs is passed over. The command of another is started for exactly the files of its batch
-- there, if there are any. After a start that failed its next batch begins where this one began
abbrev pub TakeTurns : InstanceData → ViewData → ByName TriggerData → List SentData
    → ByName TriggerData → Type 0
TakeTurns instance view [] sent after = (sent ≡ []) × (after ≡ [])
TakeTurns instance view (t ∷ later) sent after =
    (fired : FiredData) × (now : TriggerData) × (rest : List SentData)
    × (left : ByName TriggerData) × Fires instance view t.1 fired now
    × (sent ≡ turn_lines fired ++ rest) × (after ≡ (t.0, now) ∷ left)
    × TakeTurns instance view later rest left

-- a round of the root of this text: each trigger of it has its turn, at the view of all passes
pub record IsRoundOf (root : List ℕ) (world : WorldData) (sent : List SentData)
    (after : WorldData) : Type 0 where
  pub number : ℕ
  pub found : number_of root world.events ≡ Some number
  pub view : ViewData
  pub seen : IsViewOf (passes_over number world.events) view
  pub triggers : ByName TriggerData
  pub turns : TakeTurns (instance_of world.run number) view (triggers_of number world.shelf) sent
      triggers
  pub left : after.shelf ≡ with_triggers number triggers world.shelf

-- in any world a round leaves out no trigger of its root, and sends nothing if that is not shown
abbrev pub RoundsAreExact : Type 0
RoundsAreExact = (world after : WorldData) (root : List ℕ) (answers : List (Option ℕ))
    (sent : List SentData) → Happens world (round root answers) sent after
    → ((number_of root world.events ≡ None) × (sent ≡ [])) ⊎ IsRoundOf root world sent after

-- the subscriptions and the triggers of a world are exact
abbrev pub FollowersAreExact : Type 0
FollowersAreExact = SubscriptionsAreExact × MomentsAreExact × TriggersAreExact × RoundsAreExact
