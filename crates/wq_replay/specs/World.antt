-- The world that sessions play in: the history of its roots, the shelf of all clients, the
-- subscriptions of each client, and the running commands. Also the happenings of such a world.
-- Crawls and watches are from Watchman's documentation of synchronisation (`sync_timeout`) and of
-- `watch`; the rest is this server's own.
use Rattle.std.specs.Prelude.{◌≡◌, ◌⊎◌, ℕ, ℤ, Bool, List, [], ◌∷◌, codes}
use Rattle.std.specs.Prelude.{Option, Some, None, Result, Ok, Err}
use Rattle.wq_clock.specs.Run.{RunData}
use Rattle.wq_follow.specs.Subscription.{SubscriptionData}
use Rattle.wq_live.specs.Event.{number_of}
use Rattle.wq_live.specs.declared.event.RootEvent.{RootEvent}
use Rattle.wq_live.specs.declared.event.RootEvent.TheVariants.{Started}
use Rattle.wq_registry.specs.Shelf.{blank, root_added}
use Rattle.wq_ask.specs.declared.ask.Ask.{Ask}
use Rattle.wq_session.specs.At.{ShelfNow}
use Rattle.wq_crawl.specs.declared.fault.CrawlFault.{CrawlFault}
use Rattle.wq_crawl.specs.declared.fault.CrawlFault.TheVariants.{TicksSpent, TooManyRoots}
use Rattle.wq_crawl.specs.Meets.{RefusedData}
use Rattle.wq_crawl.specs.Publish.{IsNotTakenIn, IsPlace, Passes, with_start}
use Rattle.wq_crawl.specs.declared.place.Place.{Place}
use Rattle.wq_crawl.specs.declared.place.Place.TheVariants.{Shown, Full, Free}
use Rattle.wq_view.specs.Listing.{PassData}

-- a world: the run of the server, the history of the roots, the shelf of all clients, and the
-- subscriptions of each client. Also the numbers of the runs of commands that go on, and the last
-- crawl or opening, if it was refused and nothing followed it
pub record WorldData : Type 0 where
  pub run : RunData
  pub events : List RootEvent
  pub shelf : ShelfNow
  pub follows : ℤ → List SubscriptionData
  pub runs : List ℕ
  pub refused : Option RefusedData

-- a happening in a world
pub data HappeningData : Type 0 where
  -- a crawl of a root: its listing, or the fault
  crawl : (root : List ℕ) → Result PassData CrawlFault → HappeningData
  -- the opening of a root, unless it is shown: its listing, or the fault
  watching : (root : List ℕ) → Result PassData CrawlFault → HappeningData
  -- a client asks, or leaves
  asked : (client : ℤ) → Ask → HappeningData
  -- an idle moment of the root of this number: a client hears of its changes
  idle : (client : ℤ) → (root : ℕ) → HappeningData
  -- a round of the triggers of a root, with the launcher's answers to its starts in turn: the
  -- number of a run, or none if the start fails. A start without an answer fails
  round : (root : List ℕ) → (answers : List (Option ℕ)) → HappeningData
  -- the run of this number has ended
  ended : (run : ℕ) → HappeningData

-- a line that the server sends: to a client a reply, or a list of a subscription; to no client, a
-- line about a start
pub record SentData : Type 0 where
  pub client : Option ℤ
  -- without a newline
  pub text : List ℕ
  -- whether the server is to end
  pub shuts : Bool

-- the root that a new world has
abbrev pub root_text : List ℕ
root_text = codes "/r"

-- a world before any happening, with this run of the server and this socket. Its root is watched as
-- root 1, and no pass went over it
abbrev pub new_world : RunData → List ℕ → WorldData
new_world run sockname = record {
  run = run;
  events = Started 1 root_text ∷ [];
  shelf = root_added root_text 1 (blank sockname);
  follows = λ client. [];
  runs = [];
  refused = None;
}

-- the world after a crawl or a watching that was refused
abbrev pub refusing : List ℕ → CrawlFault → WorldData → WorldData
refusing root fault world = record world { refused = Some (record { root = root; fault = fault }) }

-- the world after any other happening
abbrev pub unrefused : WorldData → WorldData
unrefused world = record world { refused = None }

-- the world with this history of the roots
abbrev pub at_events : List RootEvent → WorldData → WorldData
at_events events world = record world { events = events }

-- a crawl of a root that listed this. A root that is not shown stays so. Otherwise the pass is
-- added, unless it tells nothing. It is refused if the ticks are used up
abbrev pub CrawlsAt : Option ℕ → WorldData → List ℕ → PassData → WorldData → Type 0
CrawlsAt None world root pass after = after ≡ unrefused world
CrawlsAt (Some number) world root pass after =
    ((events : List RootEvent) × Passes world.events number pass events
    × (after ≡ unrefused (at_events events world)))
    ⊎ (IsNotTakenIn world.events number pass TicksSpent × (after ≡ refusing root TicksSpent world))

-- a crawl of a root
abbrev pub Crawls : WorldData → List ℕ → Result PassData CrawlFault → WorldData → Type 0
Crawls world root (Ok pass) after = CrawlsAt (number_of root world.events) world root pass after
Crawls world root (Err fault) after = after ≡ refusing root fault world

-- a root starts by a watch with this listing, or the watch is refused
abbrev pub Starts : WorldData → List ℕ → Result PassData CrawlFault → WorldData → Type 0
Starts world root (Ok pass) after =
    after ≡ unrefused (at_events (with_start root pass world.events) world)
Starts world root (Err fault) after = after ≡ refusing root fault world

-- a watch of a root with this result: a root that is shown stays as it is
abbrev pub WatchesAt : Place → WorldData → List ℕ → Result PassData CrawlFault → WorldData → Type 0
WatchesAt (Shown number) world root seen after = after ≡ unrefused world
WatchesAt Full world root seen after = after ≡ refusing root TooManyRoots world
WatchesAt Free world root seen after = Starts world root seen after

-- a watch of a root
abbrev pub Watches : WorldData → List ℕ → Result PassData CrawlFault → WorldData → Type 0
Watches world root seen after =
    (place : Place) × IsPlace root world.events place × WatchesAt place world root seen after
