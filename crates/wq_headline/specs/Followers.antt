-- The lists of subscriptions in a world: each has exactly the files that changed since the last
-- one, and nothing is missed.
-- From Watchman's documentation of `subscribe`.
use Rattle.std.specs.Prelude.{◌≡◌, ◌⊎◌, ◌<◌, ◌≤◌, ℕ, ℤ, true, List, [], ◌∷◌, ◌++◌}
use Rattle.std.specs.Prelude.{All, map, Option, Ok}
use Rattle.serde_json.specs.Data.{Data}
use Rattle.serde_json.specs.Written.{compact_text}
use Rattle.wq_clock.specs.Run.{RunData, instance_of}
use Rattle.wq_code.specs.declared.raw.Raw.{Raw}
use Rattle.wq_follow.specs.Batch.{told_up_to, untold}
use Rattle.wq_follow.specs.Interval.{Adjoin, LookData, ToldData, is_matched, told_at}
use Rattle.wq_follow.specs.Missing.{IsAmong, IsOf, IsToldOnce, end_of}
use Rattle.wq_follow.specs.Subscription.{SubscriptionData}
use Rattle.wq_follow.specs.Subscription.{text_if_any}
use Rattle.wq_live.specs.Event.{passes_over}
use Rattle.wq_live.specs.declared.event.RootEvent.{RootEvent}
use Rattle.wq_reply.specs.Following.{list_data, with_bound}
use Rattle.wq_reply.specs.Listing.{files_of}
use Rattle.wq_query.specs.Query.{QueryData}
use Rattle.wq_reply.specs.Plan.{PlanData}
use Rattle.wq_query.specs.Subscribed.{subscribes as subscription_of}
use Rattle.wq_replay.specs.Playing.{Happens, Runs, sent_list}
use Rattle.wq_replay.specs.World.{HappeningData, SentData, WorldData, idle, new_world}
use Rattle.wq_session.specs.Moment.{listed_once}
use Rattle.wq_session.specs.Subscribe.{first_plan}
use Rattle.wq_view.specs.History.{History}
use Rattle.wq_record.specs.RecordData.{RecordData}
use Rattle.wq_view.specs.View.{IsViewOf, ViewData}
use Rattle.wq_headline.specs.Moments.{TellsAll}

-- these lines were sent, in this order, with other lines between them
abbrev pub WereSent : List SentData → List SentData → Type 0
WereSent [] sent = Unit {0}
WereSent (line ∷ lines) [] = ⊥
WereSent (line ∷ lines) (first ∷ sent) =
    ((first ≡ line) × WereSent lines sent) ⊎ WereSent (line ∷ lines) sent

-- the list of a subscription with a plan and from a bound, of these files, at a view
abbrev pub list_now : RunData → SubscriptionData → PlanData → ViewData → List RecordData → Data
list_now run s plan view files =
    list_data s.root s.name plan (instance_of run s.number) view.tick files

-- the list of a batch that was told, if it has files
abbrev pub list_told : RunData → SubscriptionData → PlanData → ToldData → List (List ℕ)
list_told run s plan t = listed_once (text_if_any (t.batch).files
    (list_now run s (with_bound (t.batch).from plan) t.view (t.batch).files))

-- the lists of batches that were told, one after the other
abbrev pub lists_told : RunData → SubscriptionData → PlanData → List ToldData → List (List ℕ)
lists_told run s plan [] = []
lists_told run s plan (t ∷ later) = list_told run s plan t ++ lists_told run s plan later

-- a look at a view, at which the batch is told
abbrev pub telling : ViewData → LookData
telling view = record { view = view; tells = true }

-- the batches that are told at these views, one after the other, after a list that ended at a tick
abbrev pub told_since : PlanData → ℕ → List ViewData → List ToldData
told_since plan tick views = told_at (map telling views) (told_up_to tick (untold plan))

-- these are views of a root, at its last pass or an earlier one
abbrev pub AreViewsOf : History → List ViewData → Type 0
AreViewsOf history [] = Unit {0}
AreViewsOf history (view ∷ views) = IsOf history view × AreViewsOf history views

-- all that a client was sent of a subscription that it has: the list of its plan at a first view,
-- and then a list of each batch that has files. The batches were told at later views of its root
pub record IsFollowed (run : RunData) (client : ℤ) (events : List RootEvent)
    (sent : List SentData) (s : SubscriptionData) : Type 0 where
  -- the query that its object asks, and the program that this names, if it names one
  pub object : Data
  pub query : QueryData
  pub program : Option Raw
  pub asks : subscription_of (instance_of run s.number) object ≡ Ok query
  pub plan : PlanData
  pub planned : plan ≡ first_plan query program
  -- the view of its first list, and the views of the batches
  pub first : ViewData
  pub views : List ViewData
  pub are : AreViewsOf (passes_over s.number events) (first ∷ views)
  pub told : List ToldData
  pub is : told ≡ told_since plan first.tick views
  pub sends : WereSent (map (sent_list client)
      (compact_text (list_now run s plan first (files_of plan first.records))
      ∷ lists_told run s plan told)) sent
  -- each batch has exactly the files that match and whose last change lies in its interval. Each
  -- interval begins at the end of the one before it
  pub exact : Adjoin first.tick (is_matched plan) told
  -- the next batch begins at the end of the last one
  pub next : s.follower ≡ told_up_to (end_of first.tick told) (untold plan)
  -- nothing is missed: exactly one batch has each matching file that changed last between the first
  -- list and the last batch
  pub once : (view : ViewData) (r : RecordData) → IsViewOf (passes_over s.number events) view
      → IsAmong r view.records → is_matched plan r ≡ true
      → first.tick < r.otick → r.otick ≤ end_of first.tick told → IsToldOnce r told

-- whatever happened in a world before: of each subscription that a client has then, it was sent
-- exactly the files that match and changed, each time since the list before. Up to the last list
-- no file that changed is missed
abbrev pub SubscriptionsAreExact : Type 0
SubscriptionsAreExact = (run : RunData) (sockname : List ℕ) (happenings : List HappeningData)
    (sent : List SentData) (world : WorldData) (client : ℤ)
    → Runs (new_world run sockname) happenings sent world
    → All (IsFollowed run client world.events sent) (world.follows client)

-- an idle moment of the root of this number: the client is sent the lists that its subscriptions
-- get, and nothing else
pub record IsMoment (number : ℕ) (world : WorldData) (client : ℤ) (sent : List SentData)
    (after : WorldData) : Type 0 where
  pub lists : List (List ℕ)
  pub exact : TellsAll world.run number world.events (world.follows client) lists
      (after.follows client)
  pub sends : sent ≡ map (sent_list client) lists

-- whatever happened in a world before, its idle moments are such
abbrev pub MomentsAreExact : Type 0
MomentsAreExact = (world after : WorldData) (client : ℤ) (number : ℕ) (sent : List SentData)
    → Happens world (idle client number) sent after → IsMoment number world client sent after
