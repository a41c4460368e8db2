-- The replies to queries: each lists exactly the files that match, in a view of its root.
-- From Watchman's documentation of `query`, of clocks and of synchronisation (`sync_timeout`);
-- programs are this server's own.
use Rattle.std.specs.Prelude.{◌≡◌, ◌⊎◌, ℕ, ℤ, Bool, true, false, List, [], ◌∷◌, take}
use Rattle.std.specs.Prelude.{Option, Some, None, Ok, Err, IfSome}
use mathlib.Core.List.{IsPrefix}
use mathlib.Core.Logic.{inl, inr}
use Rattle.serde_json.specs.Data.{Data}
use Rattle.serde_json.specs.View.{view as data_of}
use Rattle.serde_json.specs.declared.value.Value.{Value}
use Rattle.wq_ask.specs.Argument.{queries}
use Rattle.wq_session.specs.Out.{MayRefuse, OutData, refuses, replies, runs_out, silence}
use Rattle.wq_ask.specs.Reading.{Asks, requested}
use Rattle.wq_ask.specs.declared.ask.Ask.{Ask}
use Rattle.wq_ask.specs.declared.ask.Ask.TheVariants.{OfRoot}
use Rattle.wq_ask.specs.declared.ask.RootAsk.TheVariants.{Query as AsksQuery}
use Rattle.wq_ask.specs.declared.refusal.Refusal.{Refusal}
use Rattle.wq_ask.specs.declared.refusal.Refusal.TheVariants.{NotWatched}
use Rattle.wq_base.specs.Fault.{or_fault}
use Rattle.wq_clock.specs.Run.{RunData, instance_of, run_data}
use Rattle.wq_code.specs.declared.raw.Raw.{Raw}
use Rattle.wq_crawl.specs.Roots.{passing}
use Rattle.wq_crawl.specs.declared.fault.CrawlFault.{CrawlFault}
use Rattle.wq_live.specs.Event.{number_of, passes_over}
use Rattle.wq_live.specs.declared.event.RootEvent.{RootEvent}
use Rattle.wq_query.specs.Query.{QueryData}
use Rattle.wq_query.specs.Reading.{asks as query_of}
use Rattle.wq_reply.specs.Reply.{reply_of}
use Rattle.wq_crawl.specs.Meets.{refused_fault}
use Rattle.wq_replay.specs.Playing.{Happens, Runs, sent_to}
use Rattle.wq_replay.specs.Valid.{AreAsksOfEvents}
use Rattle.wq_replay.specs.World.{HappeningData, SentData, WorldData, asked, new_world}
use Rattle.wq_crawl.specs.Basis.{Basis}
use Rattle.wq_crawl.specs.Ready.{Hears, KnownData}
use Rattle.wq_session.specs.Serving.{EndData, GoesOn, IsServed, PlaceData}
use Rattle.wq_crawl.specs.At.{AtData}
use Rattle.wq_session.specs.At.{ShelfNow, watched}
use Rattle.wq_session.specs.Crawl.{crawl_refusal}
use Rattle.wq_session.specs.Query.{plan_at, program_for, begun_query}
use Rattle.wq_session.specs.Reached.{IsReached}
use Rattle.wq_stream.specs.declared.event.Event.{Event}
use Rattle.wq_stream.specs.declared.event.Event.TheVariants.{Line, Idle}
use Rattle.wq_verify.specs.Typing.{IsValid}
use Rattle.wq_view.specs.View.{IsViewOf, ViewData}
use Rattle.wq_headline.specs.Gone.{LeavesList}
use Rattle.wq_headline.specs.Moments.{TellsAll}

-- a list of events shows this at the text of a root: nothing; or a root of this number, and the
-- view of all passes over it
abbrev pub Shows : RunData → List ℕ → List RootEvent → Option AtData → Type 0
Shows run root events None = number_of root events ≡ None
Shows run root events (Some at) = (number : ℕ) × (view : ViewData)
    × (number_of root events ≡ Some number) × IsViewOf (passes_over number events) view
    × (at ≡ record { instance = instance_of run number; view = Some view })

-- the reply is a list of exactly the files that match: those of the view that the query selects,
-- since its bound. Its clock is that of the view
pub record ListsExactly (at : AtData) (shelf : ShelfNow) (d : Data) (out : OutData) : Type 0 where
  pub view : ViewData
  pub shown : at.view ≡ Some view
  -- the query that the object asks
  pub query : QueryData
  pub asks : query_of at.instance d ≡ Ok query
  -- the program that it names on the shelf, if it names one
  pub program : Option Raw
  pub named : program_for query shelf ≡ Ok program
  pub valid : IfSome program IsValid
  pub told : out
      ≡ replies (reply_of (plan_at (at.instance).root query program shelf) at.instance view)

-- a query is refused, for the first reason that there is at this root and this shelf
abbrev pub IsRefused : List ℕ → Data → Option AtData → ShelfNow → OutData → Type 0
IsRefused root d at shelf out = (refusal : Refusal)
    × (or_fault NotWatched (watched root at shelf) (λ at. begun_query d at shelf) ≡ Err refusal)
    × (out ≡ refuses refusal)

-- the reply to a query of a root, at what is looked at there and a shelf: a list, a refusal, or
-- that memory ran out
abbrev pub IsReplyAt : List ℕ → Data → Option AtData → ShelfNow → OutData → Type 0
IsReplyAt root d at shelf out =
    ((here : AtData) × (watched root at shelf ≡ Some here) × ListsExactly here shelf d out)
    ⊎ IsRefused root d at shelf out
    ⊎ (out ≡ runs_out None)

-- the reply to a query of a root in a world: at what the history shows, unless the crawl before the
-- query was refused
abbrev pub IsReplyIn : WorldData → List ℕ → Data → OutData → Type 0
IsReplyIn world root d out =
    ((fault : CrawlFault) × (refused_fault root world.refused ≡ Some fault)
    × MayRefuse (crawl_refusal fault) out)
    ⊎ ((at : Option AtData) × Shows world.run root world.events at
    × IsReplyAt root d at world.shelf out)
    ⊎ (out ≡ runs_out None)

-- whatever happened in a world before, asks of clients' events, crawls, rounds and ends: the reply
-- to a line that asks for files is exact
abbrev pub RepliesAreExact : Type 0
RepliesAreExact = (run : RunData) (sockname : List ℕ) (earlier : List HappeningData)
    (lines sent : List SentData) (world after : WorldData) (client : ℤ) (line root : List ℕ)
    (crawl : Bool) (d : Data) (ask : Ask)
    → Runs (new_world run sockname) earlier lines world → AreAsksOfEvents earlier
    → requested line ≡ Ok (queries root crawl d) → Asks (Line line) ask
    → Happens world (asked client ask) sent after
    → (out : OutData) × (sent ≡ sent_to client out) × IsReplyIn world root d out

-- a session looks at a root: in a list of events that was published, and that begins with all that
-- it knew; or the look was refused, and it sees no root
abbrev pub SeesAt : Basis → List ℕ → KnownData → Option AtData → KnownData → Type 0
SeesAt basis root before at after =
    (IsPrefix before.seen after.seen × basis.published after.seen
    × Shows (run_data basis.run) root after.seen at)
    ⊎ ((at ≡ None) × basis.refused after.seen)

-- what a session hears before that look: of a query that synchronises, the list after a pass over
-- the root. Any other query hears nothing
abbrev pub HearsBefore : Bool → List ℕ → KnownData → KnownData → Type 0
HearsBefore false root before heard = heard ≡ before
HearsBefore true root before heard =
    (told : Option (List RootEvent)) × Hears before (passing root) (Ok told) heard

-- the session could not have the root crawled, for this fault
abbrev pub IsNotCrawled : Bool → List ℕ → KnownData → CrawlFault → KnownData → Type 0
IsNotCrawled crawl root before fault after =
    (crawl ≡ true) × Hears before (passing root) (Err fault) after

-- the reply of a session to a query of a root: at what it sees there, and at a shelf that the acts
-- of sessions and rounds lead to. If a shelf is shown, that is it. There is none if the client had
-- gone when the files of the query were listed there
abbrev pub IsReplyOf : Basis → PlaceData → List ℕ → Bool → Data → OutData → PlaceData → Type 0
IsReplyOf basis before root crawl d out after =
    ((fault : CrawlFault) × IsNotCrawled crawl root before.known fault after.known
    × MayRefuse (crawl_refusal fault) out)
    ⊎ ((heard : KnownData) × (at : Option AtData) × (shelf : ShelfNow)
    × HearsBefore crawl root before.known heard × SeesAt basis root heard at after.known
    × IfSome before.shelf (λ shown. shelf ≡ shown) × IsReached shelf
    × (IsReplyAt root d at shelf out
    ⊎ ((q : Value) × (data_of q ≡ d) × LeavesList (OfRoot root crawl (AsksQuery q)) at shelf out)))
    ⊎ (out ≡ runs_out None)

-- the lists of an idle moment of the root of this number: the first subscriptions get theirs, none
-- of which is left out, and the others wait. If the look was refused there are none, and all stay
abbrev pub AreListsOf : Basis → PlaceData → ℕ → OutData → PlaceData → Type 0
AreListsOf basis before number out after =
    (IsPrefix (before.known).seen (after.known).seen × basis.published (after.known).seen
    × (out.reply ≡ None)
    × TellsAll (run_data basis.run) number (after.known).seen before.follows out.lists
    after.follows)
    ⊎ ((out ≡ silence true) × (after.follows ≡ before.follows)
    × basis.refused (after.known).seen)

-- the output of a session for an event is exact, if the event is a line that asks for files, or an
-- idle moment
abbrev pub IsExact : Basis → PlaceData → Event → OutData → PlaceData → Type 0
IsExact basis before (Line line) out after = (root : List ℕ) (crawl : Bool) (d : Data)
    → requested line ≡ Ok (queries root crawl d)
    → IsReplyOf basis before root crawl d out after
IsExact basis before (Idle number) out after = AreListsOf basis before number out after
IsExact basis before _ out after = Unit {0}

-- each of these events has an exact output
abbrev pub AreExact : (basis : Basis) (before : PlaceData) (events : List Event)
    (written : List ℕ) (after : PlaceData) → GoesOn basis before events written after → Type 0
AreExact basis before [] written after goes = Unit {0}
AreExact basis before (event ∷ later) written after (out, next, rest, serves, on, is, goes) =
    IsExact basis before event out next × AreExact basis next later rest after goes

-- and so has each event of a session
abbrev pub AllAreExact : (basis : Basis) (before : PlaceData) (old new : Option (List ℕ))
    (after : PlaceData) (how : EndData) → IsServed basis before old new after how → Type 0
AllAreExact basis before old new after how (inl by) =
    AreExact basis before by.events by.lines by.between by.goes_on
    × IsExact basis by.between by.last by.out after
AllAreExact basis before old new after how (inr full) =
    AreExact basis before full.events full.lines after full.goes_on

-- whatever crawls, clients and workers come between: each reply of a session to a line that asks
-- for files is exact, and so are the lists of each idle moment. A shelf that is shown at first is
-- one that acts lead to
abbrev pub ServedRepliesAreExact : Basis → Type 0
ServedRepliesAreExact basis = (before after : PlaceData) (old new : Option (List ℕ))
    (how : EndData) (served : IsServed basis before old new after how)
    → IfSome before.shelf IsReached → AllAreExact basis before old new after how served

-- a clock names one view: that of as many passes over its root as its tick says, in each list that
-- goes on from the one in which the view was seen
abbrev pub ClocksNameViews : Type 0
ClocksNameViews = (number : ℕ) (events later : List RootEvent) (view : ViewData)
    → IsPrefix events later → IsViewOf (passes_over number events) view
    → IsViewOf (take view.tick (passes_over number later)) view
