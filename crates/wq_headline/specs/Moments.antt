-- The lists of an idle moment of a root: those of its subscriptions, none of which is left out.
-- From Watchman's documentation of `subscribe`; that memory may run out is this server's own.
use Rattle.std.specs.Prelude.{◌≡◌, ◌≢◌, ◌⊎◌, ℕ, false, List, [], ◌∷◌, ◌++◌}
use Rattle.serde_json.specs.Written.{compact_text}
use Rattle.wq_clock.specs.Run.{RunData, instance_of}
use Rattle.wq_follow.specs.Batch.{is_told}
use Rattle.wq_follow.specs.Subscription.{SubscriptionData, canceled_data}
use Rattle.wq_follow.specs.Subscription.{caught_up, next_list}
use Rattle.wq_live.specs.Event.{is_shown, passes_over}
use Rattle.wq_live.specs.declared.event.RootEvent.{RootEvent}
use Rattle.wq_session.specs.Moment.{listed_once}
use Rattle.wq_view.specs.View.{IsViewOf, ViewData}

-- there is something to tell a subscription: a pass over its root since its last list, or that the
-- root is no longer watched
abbrev pub HasNews : List RootEvent → SubscriptionData → Type 0
HasNews events s = (is_shown events s.number ≡ false)
    ⊎ ((view : ViewData) × IsViewOf (passes_over s.number events) view
    × (is_told (s.follower).last view.tick ≡ false))

-- the first of these subscriptions, if there are any, is of the root of this number and has news.
-- It waits only if memory ran out for its list, which no definition says
abbrev pub Wait : ℕ → List RootEvent → List SubscriptionData → Type 0
Wait number events [] = Unit {0}
Wait number events (s ∷ later) = (s.number ≡ number) × HasNews events s

-- the lists that a subscription gets at an idle moment of the root of this number, and what is left
-- of it. If its root is another, it gets none and stays. If the root is shown, it gets the list of
-- its batch at the view of all passes, if the batch has files, and its next batch begins there. If
-- the root is no longer watched, it gets the notice of that, and ends
abbrev pub GetsLists : RunData → ℕ → List RootEvent → SubscriptionData → List (List ℕ)
    → List SubscriptionData → Type 0
GetsLists run number events s lists left =
    ((s.number ≢ number) × (lists ≡ []) × (left ≡ s ∷ []))
    ⊎ ((s.number ≡ number) × (view : ViewData) × IsViewOf (passes_over number events) view
    × (lists ≡ listed_once (next_list (instance_of run number) view s))
    × (left ≡ caught_up view s ∷ []))
    ⊎ ((s.number ≡ number) × (is_shown events number ≡ false)
    × (lists ≡ compact_text (canceled_data s.root s.name) ∷ []) × (left ≡ []))

-- the lists that subscriptions get, one after the other, and what is left of them
abbrev pub GetInTurn : RunData → ℕ → List RootEvent → List SubscriptionData → List (List ℕ)
    → List SubscriptionData → Type 0
GetInTurn run number events [] lists left = (lists ≡ []) × (left ≡ [])
GetInTurn run number events (s ∷ later) lists left =
    (first : List (List ℕ)) × (rest : List (List ℕ)) × (kept : List SubscriptionData)
    × (others : List SubscriptionData) × GetsLists run number events s first kept
    × (lists ≡ first ++ rest) × (left ≡ kept ++ others)
    × GetInTurn run number events later rest others

-- an idle moment of the root of this number: the first subscriptions get these lists, and the
-- others wait as they are
pub record TellsAll (run : RunData) (number : ℕ) (events : List RootEvent)
    (before : List SubscriptionData) (lists : List (List ℕ)) (after : List SubscriptionData) :
    Type 0 where
  pub first : List SubscriptionData
  pub waiting : List SubscriptionData
  pub parts : before ≡ first ++ waiting
  pub left : List SubscriptionData
  pub exact : GetInTurn run number events first lists left
  pub is : after ≡ left ++ waiting
  pub wait : Wait number events waiting
