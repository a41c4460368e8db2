-- A session that is served alone, and the run of the world that it is.
-- It is this server's own.
use Rattle.std.specs.Prelude.{◌≡◌, ◌⊎◌, ℕ, ℤ, Bool, true, List, [], ◌∷◌, ◌++◌, map}
use Rattle.std.specs.Prelude.{Option, Some, None, Result}
use Rattle.wq_clock.specs.Run.{run_data}
use Rattle.wq_clock.specs.declared.run.Run.{Run}
use Rattle.wq_crawl.specs.At.{AtData}
use Rattle.wq_crawl.specs.Crawl.{CrawlerData}
use Rattle.wq_crawl.specs.declared.fault.CrawlFault.{CrawlFault}
use Rattle.wq_live.specs.Event.{number_of}
use Rattle.wq_live.specs.Table.{IsTableOf, TableData}
use Rattle.wq_live.specs.declared.event.RootEvent.{RootEvent}
use Rattle.wq_replay.specs.Gets.{kept}
use Rattle.wq_replay.specs.Playing.{Runs, sent_to}
use Rattle.wq_replay.specs.World.{WorldData, HappeningData, SentData, crawl, watching, asked, idle}
use Rattle.wq_crawl.specs.Basis.{Basis}
use Rattle.wq_crawl.specs.Ready.{KnownData}
use Rattle.wq_session.specs.Serving.{GoesOn, PlaceData, Serves, lines_for, written_for}
use Rattle.wq_crawl.specs.Need.{NeedData, none, look, crawl as crawl_of, watch as watch_of, unwatch}
use Rattle.wq_session.specs.Need.{need_of}
use Rattle.wq_session.specs.Out.{OutData}
use Rattle.wq_ask.specs.Reading.{Asks}
use Rattle.wq_ask.specs.declared.ask.Ask.{Ask}
use Rattle.wq_session.specs.Answer.{answer, giving}
use Rattle.wq_session.specs.At.{ShelfNow}
use Rattle.wq_stream.specs.declared.event.Event.{Event}
use Rattle.wq_stream.specs.declared.event.Event.TheVariants.{Idle}
use Rattle.wq_view.specs.Listing.{PassData}
use Rattle.wq_headline.specs.Gone.{LeavesList}

-- the roots show their crawler, and the session's last list is the one that is published, with its
-- table
abbrev pub IsCurrent : KnownData → Type 0
IsCurrent known = (crawler : CrawlerData) × (table : TableData) × (known.roots ≡ Some crawler)
    × (known.seen ≡ crawler.events) × IsTableOf known.seen table

-- the ends of a session of this client show this world. The roots show a crawler, whose list is the
-- history of the world, and the desk shows its shelf. In the world the client has the subscriptions
-- of the session, or none if the session does not go on
pub record ShowsWorld (run : Run) (client : ℤ) (goes_on : Bool) (place : PlaceData)
    (world : WorldData) : Type 0 where
  pub current : IsCurrent place.known
  pub events : world.events ≡ (place.known).seen
  pub shelf : place.shelf ≡ Some world.shelf
  pub follows : world.follows client ≡ kept goes_on place.follows
  pub of_run : world.run ≡ run_data run
  pub refused : world.refused ≡ None

-- ends that show a crawler and a shelf show a world
abbrev pub EndsShowAWorld : Type 0
EndsShowAWorld = (run : Run) (client : ℤ) (place : PlaceData) (shelf : ShelfNow)
    → IsCurrent place.known → place.shelf ≡ Some shelf
    → (world : WorldData) × ShowsWorld run client true place world

-- the happenings in a world before an ask with this need: none; or a crawl or a watching of the
-- root that it needs
abbrev pub HappensFirst : NeedData → List HappeningData → Type 0
HappensFirst (crawl_of root) first = (first ≡ [])
    ⊎ ((seen : Result PassData CrawlFault) × (first ≡ crawl root seen ∷ []))
HappensFirst (watch_of root) first = (first ≡ [])
    ⊎ ((seen : Result PassData CrawlFault) × (first ≡ watching root seen ∷ []))
HappensFirst _ first = first ≡ []

-- a look was refused
abbrev pub WasRefused : Basis → Type 0
WasRefused basis = (seen : List RootEvent) × basis.refused seen

-- the happenings in a world for an event of a client. For an idle moment it is that moment, or
-- there is none if its look was refused. For any other event it is an ask, after the happenings
-- that the ask needs
abbrev pub HappensFor : Basis → ℤ → Event → List HappeningData → Type 0
HappensFor basis client (Idle root) happenings =
    ((happenings ≡ []) × WasRefused basis) ⊎ (happenings ≡ idle client root ∷ [])
HappensFor basis client event happenings = (ask : Ask) × (first : List HappeningData)
    × Asks event ask × HappensFirst (need_of ask) first
    × (happenings ≡ first ++ asked client ask ∷ [])

-- the happenings for events of a client, one after the other
abbrev pub HappensInTurn : Basis → ℤ → List Event → List HappeningData → Type 0
HappensInTurn basis client [] happenings = happenings ≡ []
HappensInTurn basis client (event ∷ later) happenings =
    (first : List HappeningData) × (rest : List HappeningData)
    × HappensFor basis client event first × (happenings ≡ first ++ rest)
    × HappensInTurn basis client later rest

-- the root that is needed, if one is
abbrev pub root_needed : NeedData → Option (List ℕ)
root_needed none = None
root_needed (look root) = Some root
root_needed (crawl_of root) = Some root
root_needed (watch_of root) = Some root
root_needed (unwatch root) = Some root

-- an ask has exactly the answer of a root that is not watched, at a shelf that is shown
abbrev pub IsUnwatched : Ask → PlaceData → OutData → PlaceData → Type 0
IsUnwatched ask before out after = (shelf : ShelfNow) × (left : ShelfNow)
    × (before.shelf ≡ Some shelf) × (after.shelf ≡ Some left)
    × (answer ask None shelf before.follows
    ≡ record { done = giving out after.follows; shelf = left })

-- the look for an event was refused: the event is an ask that has the answer of a root that is not
-- watched, though the root that it needs is
abbrev pub WasBlind : Basis → PlaceData → Event → OutData → PlaceData → Type 0
WasBlind basis before event out after = (ask : Ask) × (root : List ℕ) × (number : ℕ)
    × Asks event ask × (root_needed (need_of ask) ≡ Some root)
    × (number_of root (after.known).seen ≡ Some number) × IsUnwatched ask before out after
    × basis.refused (after.known).seen

-- the client had gone when files were listed for the event, which is an ask whose work that is at a
-- root and a shelf
abbrev pub HasGone : Event → OutData → Type 0
HasGone event out = (ask : Ask) × (at : Option AtData) × (shelf : ShelfNow) × Asks event ask
    × LeavesList ask at shelf out

-- an event that a session took is a run of the world. The happenings for the event send the output
-- of the session, and lead to the world that the ends show then
abbrev pub IsRunFor : Basis → ℤ → WorldData → Event → OutData → PlaceData → Type 0
IsRunFor basis client world event out after = (happenings : List HappeningData)
    × (next : WorldData) × HappensFor basis client event happenings
    × Runs world happenings (sent_to client out) next
    × ShowsWorld basis.run client out.goes_on after next

-- an event of a session that is served alone is a run of the world, unless its look was refused, or
-- the client had gone when files were listed for it. There are two premises. The ends show a world
-- before the event: those do that show a crawler and a shelf. The session's last list after the
-- event is the one that is published, with its table. A look finds it if nobody else publishes, and
-- each lawful list has a table, but no clause says so
abbrev pub EventsAreRuns : Basis → Type 0
EventsAreRuns basis = (client : ℤ) (before after : PlaceData) (event : Event) (out : OutData)
    (world : WorldData) → ShowsWorld basis.run client true before world
    → Serves basis before event out after → IsCurrent after.known
    → HasGone event out ⊎ WasBlind basis before event out after
    ⊎ IsRunFor basis client world event out after

-- a session takes events alone, one after the other, and goes on after each. After each, its last
-- list is the one that is published
abbrev pub GoesOnAlone : Basis → PlaceData → List Event → List ℕ → PlaceData → Type 0
GoesOnAlone basis before [] written after = (written ≡ []) × (after ≡ before)
GoesOnAlone basis before (event ∷ later) written after =
    (out : OutData) × (next : PlaceData) × (rest : List ℕ) × Serves basis before event out next
    × (out.goes_on ≡ true) × (written ≡ written_for out ++ rest) × IsCurrent next.known
    × GoesOnAlone basis next later rest after

-- one of the looks of a session that went on alone was refused
abbrev pub WasBlindOnce : (basis : Basis) (before : PlaceData) (events : List Event)
    (written : List ℕ) (after : PlaceData) → GoesOnAlone basis before events written after → Type 0
WasBlindOnce basis before [] written after alone = ⊥
WasBlindOnce basis before (event ∷ later) written after
    (out, next, rest, serves, goes_on, is, current, alone) =
    WasBlind basis before event out next ⊎ WasBlindOnce basis next later rest after alone

-- the bytes of these lines: the text of each, and a newline
abbrev pub written_of : List SentData → List ℕ
written_of sent = lines_for (map (λ line. line.text) sent)

-- events that a session took are one run of the world, which sends the lines that it wrote
abbrev pub IsRunOf : Basis → ℤ → WorldData → List Event → List ℕ → Bool → PlaceData → Type 0
IsRunOf basis client world events written goes_on after =
    (happenings : List HappeningData) × (sent : List SentData) × (next : WorldData)
    × HappensInTurn basis client events happenings × Runs world happenings sent next
    × (written ≡ written_of sent) × ShowsWorld basis.run client goes_on after next

-- a session that goes on alone is a run of the world from the list and the shelf that its ends
-- show, unless one of its looks was refused. The premises are those of each of its events
abbrev pub GoingOnIsARun : Basis → Type 0
GoingOnIsARun basis = (client : ℤ) (before after : PlaceData) (events : List Event)
    (written : List ℕ) (world : WorldData) → ShowsWorld basis.run client true before world
    → (alone : GoesOnAlone basis before events written after)
    → WasBlindOnce basis before events written after alone
    ⊎ IsRunOf basis client world events written true after

-- the same with the last event of a session, after which it may end, unless the client had gone
-- when files were listed for it
abbrev pub ServedAloneIsARun : Basis → Type 0
ServedAloneIsARun basis = (client : ℤ) (before between after : PlaceData)
    (events : List Event) (lines : List ℕ) (last : Event) (out : OutData) (world : WorldData)
    → ShowsWorld basis.run client true before world
    → (alone : GoesOnAlone basis before events lines between)
    → Serves basis between last out after → IsCurrent after.known
    → WasBlindOnce basis before events lines between alone
    ⊎ HasGone last out ⊎ WasBlind basis between last out after
    ⊎ IsRunOf basis client world (events ++ last ∷ []) (lines ++ written_for out) out.goes_on after

-- a session that goes on alone goes on as each session does
abbrev pub AloneGoesOn : Basis → Type 0
AloneGoesOn basis = (before after : PlaceData) (events : List Event) (written : List ℕ)
    → GoesOnAlone basis before events written after → GoesOn basis before events written after
