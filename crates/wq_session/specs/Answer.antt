-- The whole answer to an ask: its beginning while the shelf is held, and its end without the shelf.
-- And the results if memory runs out, or if the client goes: no reply is owed then.
-- If the reply of a cursor could not be made, the cursor is unset: this is this server's own.
use Rattle.std.specs.Prelude.{◌≡◌, ◌⊎◌, ℕ, Bool, true, is_some, List, Option, Some, None}
use Rattle.std.specs.Prelude.{if◌then◌else◌}
use Rattle.std.specs.Option.{option_map_or}
use Rattle.wq_clock.specs.ClockText.{clock_text}
use Rattle.wq_clock.specs.Instance.{InstanceData}
use Rattle.wq_follow.specs.Subscription.{SubscriptionData, caught_up, list_of}
use Rattle.wq_reply.specs.Plan.{PlanData}
use Rattle.wq_reply.specs.Reply.{reply_of}
use Rattle.wq_registry.specs.Shelf.{cursor_unset}
use Rattle.wq_view.specs.View.{ViewData}
use Rattle.wq_session.specs.Out.{EndsListing, OutData, refuses, replies, replies_with, runs_out}
use Rattle.wq_session.specs.Out.{silence, settled}
use Rattle.wq_ask.specs.Subscribe.{subscribe_data, unsubscribe_data}
use Rattle.wq_ask.specs.declared.ask.Ask.{Ask}
use Rattle.wq_session.specs.declared.cursor.Cursor.{Cursor}
use Rattle.wq_ask.specs.declared.refusal.Refusal.TheVariants.{TooManySubscriptions}
use Rattle.wq_crawl.specs.At.{AtData}
use Rattle.wq_session.specs.At.{ShelfNow}
use Rattle.wq_session.specs.Begun.{taken_ask, takes_memory}
use Rattle.wq_session.specs.Followed.{has_called, has_no_room, with_subscription, without_called}
use Rattle.wq_session.specs.Work.{WorkData, says, prints, evaluates, begins, drops}

-- the files of a plan, of the root that is looked at
abbrev pub listed : PlanData → Option AtData → OutData
listed plan None = silence true
listed plan (Some at) =
    option_map_or (λ view. replies (reply_of plan at.instance view)) at.view (silence true)

-- the output when the work is done, and the subscriptions of the session then
pub record DoneData : Type 0 where
  pub out : OutData
  pub follows : List SubscriptionData

-- this is the output, and the subscriptions stay
abbrev pub giving : OutData → List SubscriptionData → DoneData
giving out follows = record { out = out; follows = follows }

-- a subscription began at a view of its root: the session keeps it, and the client has its first
-- list
abbrev pub subscribing_at : SubscriptionData → InstanceData → ViewData → List SubscriptionData
    → DoneData
subscribing_at s instance view follows = record {
  out =
      replies_with (subscribe_data (clock_text instance view.tick) s.name)
      (list_of instance view s);
  follows = with_subscription (caught_up view s) follows;
}

-- the same at the root that is looked at, which shows a view
abbrev pub subscribing_by : SubscriptionData → Option AtData → List SubscriptionData → DoneData
subscribing_by s None follows = giving (silence true) follows
subscribing_by s (Some at) follows =
    option_map_or (λ view. subscribing_at s at.instance view follows) at.view
    (giving (silence true) follows)

-- a subscription began, or there is no room for it
abbrev pub following : SubscriptionData → Option AtData → List SubscriptionData → DoneData
following s at follows =
    if has_no_room s.number s.name follows then giving (refuses TooManySubscriptions) follows
    else subscribing_by s at follows

-- the subscription of this name and root ended, if there is one
abbrev pub dropped : ℕ → List ℕ → List SubscriptionData → DoneData
dropped number name follows = record {
  out = replies (unsubscribe_data name (has_called number name follows));
  follows = without_called number name follows;
}

-- the output when the work is done, and the subscriptions then
abbrev pub finished : WorkData → Option AtData → List SubscriptionData → DoneData
finished (says out) at follows = giving (settled out) follows
finished (prints d) at follows = giving (replies d) follows
finished (evaluates plan cursor) at follows = giving (listed plan at) follows
finished (begins s) at follows = following s at follows
finished (drops number name) at follows = dropped number name follows

-- an answer, with the shelf and the subscriptions of the session then
pub record AnswerData : Type 0 where
  pub done : DoneData
  pub shelf : ShelfNow

-- the answer to an ask, for the root that is looked at, a shelf and the subscriptions of a session
abbrev pub answer : Ask → Option AtData → ShelfNow → List SubscriptionData → AnswerData
answer ask at shelf follows = record {
  done = finished (taken_ask ask at shelf).work at follows;
  shelf = (taken_ask ask at shelf).shelf;
}

-- the beginning of an ask: the work and the shelf are those of the answer; or memory ran out, and
-- nothing changed
abbrev pub TakesAsk : Ask → Option AtData → ShelfNow → WorkData → ShelfNow → Type 0
TakesAsk ask at shelf work after =
    (taken_ask ask at shelf ≡ record { work = work; shelf = after })
    ⊎ ((takes_memory ask ≡ true) × (work ≡ says (runs_out None)) × (after ≡ shelf))

-- the result of work if memory runs out, or if the client goes while files are listed
abbrev pub IsUnmade : Bool → WorkData → OutData → Type 0
IsUnmade may_go (says out) given = given ≡ settled out
IsUnmade may_go (prints d) given = given ≡ runs_out None
IsUnmade may_go (evaluates plan cursor) given = EndsListing may_go cursor given
IsUnmade may_go (begins s) given = given ≡ runs_out None
IsUnmade may_go (drops number name) given = given ≡ runs_out None

-- the result of finished work for a client that may go, or may not, with the subscriptions of the
-- session before and after. Without memory they stay, and so they do for a client that has gone
abbrev pub Finishes : Bool → WorkData → Option AtData → List SubscriptionData → OutData
    → List SubscriptionData → Type 0
Finishes may_go work at follows out left =
    (finished work at follows ≡ giving out left) ⊎ (IsUnmade may_go work out × (left ≡ follows))

-- the session looks at a view
abbrev pub HasView : Option AtData → Type 0
HasView None = ⊥
HasView (Some at) = is_some at.view ≡ true

-- files of the root that is looked at can be listed, if any are to be listed
abbrev pub CanFinish : WorkData → Option AtData → Type 0
CanFinish (says out) at = Unit {0}
CanFinish (prints d) at = Unit {0}
CanFinish (evaluates plan cursor) at = HasView at
CanFinish (begins s) at = HasView at
CanFinish (drops number name) at = Unit {0}

-- the shelf without a cursor, if there is one
abbrev pub without_cursor : Option Cursor → ShelfNow → ShelfNow
without_cursor None shelf = shelf
without_cursor (Some cursor) shelf = cursor_unset cursor.root cursor.name shelf

-- the result of an ask of a client that may go, or may not: its answer; or memory ran out, before
-- anything changed, or when the files were listed; or the client has gone by then. In the last two
-- cases the cursor that the answer would have moved is unset
abbrev pub AnswersAsk : Bool → Ask → Option AtData → ShelfNow → List SubscriptionData → OutData
    → ShelfNow → List SubscriptionData → Type 0
AnswersAsk may_go ask at shelf follows out after left =
    (answer ask at shelf follows ≡ record { done = giving out left; shelf = after })
    ⊎ ((takes_memory ask ≡ true) × (out ≡ runs_out None) × (after ≡ shelf) × (left ≡ follows))
    ⊎ ((plan : PlanData) × (cursor : Option Cursor)
    × ((taken_ask ask at shelf).work ≡ evaluates plan cursor)
    × EndsListing may_go None out
    × (after ≡ without_cursor cursor (taken_ask ask at shelf).shelf)
    × (left ≡ follows))
