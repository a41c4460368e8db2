-- The shelf at the end of a session: it has all that was accepted of the session's events, however
-- the session ended.
-- It is this server's own.
use Rattle.std.specs.Prelude.{◌≡◌, ◌⊎◌, ℕ, true, List, [], ◌∷◌, ◌++◌, Option, Some}
use mathlib.Core.Logic.{inl, inr}
use Rattle.wq_follow.specs.Subscription.{SubscriptionData}
use Rattle.wq_registry.specs.History.{after_all}
use Rattle.wq_session.specs.Out.{OutData}
use Rattle.wq_ask.specs.Reading.{Asks}
use Rattle.wq_ask.specs.declared.ask.Ask.{Ask}
use Rattle.wq_session.specs.Accepted.{Accepts, CallNow}
use Rattle.wq_crawl.specs.At.{AtData}
use Rattle.wq_session.specs.At.{ShelfNow}
use Rattle.wq_stream.specs.declared.event.Event.{Event}
use Rattle.wq_crawl.specs.Basis.{Basis}
use Rattle.wq_session.specs.Serving.{EndData, IsServed, PlaceData}

-- calls that an event makes at a shelf: none, or those that were accepted of its ask
abbrev pub AreOfEvent : Event → ShelfNow → List CallNow → Type 0
AreOfEvent event shelf calls =
    (calls ≡ [])
    ⊎ ((ask : Ask) × Asks event ask × (at : Option AtData) × (follows : List SubscriptionData)
    × (out : OutData) × Accepts true ask at shelf follows out calls)

-- calls that events make, one event after the other, from a shelf on
abbrev pub AreOfEvents : List Event → ShelfNow → List CallNow → Type 0
AreOfEvents [] shelf calls = calls ≡ []
AreOfEvents (event ∷ later) shelf calls =
    (first : List CallNow) × (rest : List CallNow) × (calls ≡ first ++ rest)
    × AreOfEvent event shelf first × AreOfEvents later (after_all first shelf) rest

-- the events that a session took, the last one too
abbrev pub events_of : (basis : Basis) (before : PlaceData) (old new : Option (List ℕ))
    (after : PlaceData) (how : EndData) → IsServed basis before old new after how → List Event
events_of basis before old new after how (inl by) = by.events ++ by.last ∷ []
events_of basis before old new after how (inr full) = full.events

-- What was accepted before the end of a session stays, on a shelf that is shown: the shelf is then
-- the result of the calls that were accepted of all events. That holds of the last event too, even
-- if its lines could not be written whole
abbrev pub AcceptedStays : Basis → Type 0
AcceptedStays basis = (before after : PlaceData) (old new : Option (List ℕ)) (how : EndData)
    (shelf : ShelfNow) (served : IsServed basis before old new after how)
    → before.shelf ≡ Some shelf
    → (calls : List CallNow)
    × AreOfEvents (events_of basis before old new after how served) shelf calls
    × (after.shelf ≡ Some (after_all calls shelf))
