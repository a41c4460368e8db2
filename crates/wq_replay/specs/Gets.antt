-- The answers of a world to the asks of clients, and the lists that an idle moment gives out there.
-- Crawls and watches before answers are from Watchman's documentation of synchronisation
-- (`sync_timeout`), of `watch` and of `watch-del`; the rest is this server's own.
use Rattle.std.specs.Prelude.{◌≡◌, ℕ, ℤ, Bool, true, false, List, []}
use Rattle.std.specs.Prelude.{if◌then◌else◌, Some, None}
use Rattle.std.specs.Ordering.{int_eq}
use Rattle.wq_follow.specs.Subscription.{SubscriptionData}
use Rattle.wq_live.specs.Table.{TableData, IsTableOf}
use Rattle.wq_live.specs.declared.event.RootEvent.{RootEvent}
use Rattle.wq_session.specs.Need.{need_of}
use Rattle.wq_session.specs.Out.{OutData}
use Rattle.wq_ask.specs.declared.ask.Ask.{Ask}
use Rattle.wq_session.specs.At.{ShelfNow}
use Rattle.wq_session.specs.Desk.{stand}
use Rattle.wq_session.specs.Moment.{Idles}
use Rattle.wq_crawl.specs.Meets.{Meets, numbered}
use Rattle.wq_crawl.specs.Views.{ReadyData}
use Rattle.wq_session.specs.Desk.{Replies}
use Rattle.wq_replay.specs.World.{WorldData, at_events}

-- the subscriptions of a session from now on: none, if it does not go on
abbrev pub kept : Bool → List SubscriptionData → List SubscriptionData
kept true left = left
kept false left = []

-- the subscriptions of each client, with these as those of one
abbrev pub with_follows : ℤ → List SubscriptionData → (ℤ → List SubscriptionData) → ℤ
    → List SubscriptionData
with_follows client left follows other = if int_eq client other then left else follows other

-- the world with this shelf, and with these subscriptions of a client
abbrev pub answered : ℤ → ShelfNow → List SubscriptionData → WorldData → WorldData
answered client shelf left world = record world {
  shelf = shelf;
  follows = with_follows client left world.follows;
  refused = None;
}

-- a client's ask that is ready is answered at the shelf of all clients, and at its subscriptions;
-- or its line is refused
abbrev pub RepliesIn : ℤ → ReadyData → WorldData → Ask → OutData → WorldData → Type 0
RepliesIn client ready world ask out after = (shelf : ShelfNow) × (left : List SubscriptionData)
    × Replies false ready ask (stand (Some world.shelf) (world.follows client)) out
    (stand (Some shelf) left)
    × (after ≡ answered client shelf (kept out.goes_on left) world)

-- the reply to the ask of a client, and the world after it
abbrev pub Gets : ℤ → WorldData → Ask → OutData → WorldData → Type 0
Gets client world ask out after = (ready : ReadyData) × (later : List RootEvent)
    × Meets (need_of ask) world.run world.refused world.events ready later
    × RepliesIn client ready (at_events later world) ask out after

-- the lists that an idle moment of the root of this number gives out to a client, and the world
-- after it
abbrev pub Rests : ℤ → ℕ → WorldData → OutData → WorldData → Type 0
Rests client root world out after = (table : TableData) × (left : List SubscriptionData)
    × IsTableOf world.events table
    × Idles root (numbered root world.run table) (world.follows client) out left
    × (after ≡ answered client world.shelf left world)
