-- The answers of a session to its events, one after the other, and the lines that it writes.
-- A reply to each line is from Watchman's documentation of its socket interface; the rest is this
-- server's own.
use Rattle.std.specs.Prelude.{◌≡◌, ◌⊎◌, ◌<◌, ℕ, Bool, true, false, List, [], ◌∷◌, ◌++◌, length}
use Rattle.std.specs.Prelude.{codes}
use Rattle.std.specs.Prelude.{Option, Some, None}
use Rattle.std.specs.Io.KnownBytes.{Appends}
use Rattle.wq_base.specs.Writing.{WritesFront}
use Rattle.wq_follow.specs.Subscription.{SubscriptionData}
use Rattle.wq_stream.specs.declared.event.Event.{Event}
use Rattle.wq_stream.specs.declared.event.Event.TheVariants.{Idle}
use Rattle.wq_session.specs.Need.{need_of}
use Rattle.wq_session.specs.Out.{OutData}
use Rattle.wq_ask.specs.Reading.{Asks}
use Rattle.wq_ask.specs.declared.ask.Ask.{Ask}
use Rattle.wq_session.specs.At.{ShelfNow}
use Rattle.wq_live.specs.declared.event.RootEvent.{RootEvent}
use Rattle.wq_session.specs.Desk.{StandData}
use Rattle.wq_crawl.specs.Views.{ReadyData}
use Rattle.wq_session.specs.Desk.{Replies}
use Rattle.wq_session.specs.Idling.{IsIdled}
use Rattle.wq_stream.specs.Inbox.{Hands, InboxData}
use Rattle.wq_session.specs.Limit.{max_events}
use Rattle.wq_crawl.specs.Ready.{KnownData, Readies, known}
use Rattle.wq_crawl.specs.Crawl.{CrawlerData}
use Rattle.wq_crawl.specs.Basis.{Basis}

-- the state of the ends of a session: what its inbox shows, the knowledge of the roots, and the
-- shelf; and the subscriptions of the session
pub record PlaceData : Type 0 where
  pub inbox : InboxData
  pub known : KnownData
  pub shelf : Option ShelfNow
  pub follows : List SubscriptionData

-- the part of that state which an answer uses
abbrev pub stand_at : PlaceData → StandData
stand_at place = record { shelf = place.shelf; follows = place.follows }

-- an ask is answered after its needs are met, and the client may go before
abbrev pub IsAnswered : Basis → Ask → KnownData → StandData → OutData → KnownData → StandData
    → Type 0
IsAnswered basis ask before stand out after left =
    (ready : ReadyData) × Readies basis (need_of ask) before ready after
    × Replies true ready ask stand out left

-- the result of an event: at an idle moment the session tells the subscriptions of a root; any
-- other event asks something, and the session answers it
abbrev pub Does : Basis → Event → KnownData → StandData → OutData → KnownData → StandData → Type 0
Does basis (Idle root) before stand out after left = IsIdled basis root before stand out after left
Does basis event before stand out after left =
    (ask : Ask) × Asks event ask × IsAnswered basis ask before stand out after left

-- the session takes an event: this is the output for it, and the ends are then in this state
abbrev pub Serves : Basis → PlaceData → Event → OutData → PlaceData → Type 0
Serves basis before event out after =
    Hands before.inbox event after.inbox
    × Does basis event before.known (stand_at before) out after.known (stand_at after)

-- the line of a reply, if there is one: its text and a newline
abbrev pub line_for : Option (List ℕ) → List ℕ
line_for None = []
line_for (Some text) = text ++ codes "\n"

-- the lines of lists: each one's text and a newline
abbrev pub lines_for : List (List ℕ) → List ℕ
lines_for [] = []
lines_for (text ∷ later) = (text ++ codes "\n") ++ lines_for later

-- the lines of an output: the reply, and then the lists
abbrev pub written_for : OutData → List ℕ
written_for out = line_for out.reply ++ lines_for out.lists

-- the session takes these events one after the other, and goes on after each; it writes this
abbrev pub GoesOn : Basis → PlaceData → List Event → List ℕ → PlaceData → Type 0
GoesOn basis before [] written after = (written ≡ []) × (after ≡ before)
GoesOn basis before (event ∷ later) written after =
    (out : OutData) × (next : PlaceData) × (rest : List ℕ) × Serves basis before event out next
    × (out.goes_on ≡ true) × (written ≡ written_for out ++ rest)
    × GoesOn basis next later rest after

-- the ends, from their parts
abbrev pub place : InboxData → Option CrawlerData → List RootEvent → Option ShelfNow
    → List SubscriptionData → PlaceData
place inbox roots seen shelf follows = record {
  inbox = inbox;
  known = known roots seen;
  shelf = shelf;
  follows = follows;
}

-- the end of a session
pub record EndData : Type 0 where
  -- whether the server is to end
  pub shut : Bool
  -- whether the writer failed
  pub fault : Bool

-- the writer's content at the end of a session: all the lines, unless it failed within the lines of
-- the last event
abbrev pub Wrote : Bool → Option (List ℕ) → Option (List ℕ) → List ℕ → List ℕ → Type 0
Wrote false before after lines last = Appends before after (lines ++ last)
Wrote true before after lines last =
    (between : Option (List ℕ)) × Appends before between lines × WritesFront between after last

-- a session ends with an event after which it does not go on, or whose lines it cannot write whole;
-- it goes on after each event before that
pub record EndsBy (basis : Basis) (before : PlaceData) (old new : Option (List ℕ))
    (after : PlaceData) (how : EndData) : Type 0 where
  pub events : List Event
  pub lines : List ℕ
  pub between : PlaceData
  pub last : Event
  pub out : OutData
  pub goes_on : GoesOn basis before events lines between
  pub count : length events < max_events
  pub serves : Serves basis between last out after
  pub ends : how.fault ≡ false → out.goes_on ≡ false
  pub shuts : how.shut ≡ out.shuts
  pub wrote : Wrote how.fault old new lines (written_for out)

-- a session ends because it took the most events that a session may take
pub record EndsFull (basis : Basis) (before : PlaceData) (old new : Option (List ℕ))
    (after : PlaceData) (how : EndData) : Type 0 where
  pub events : List Event
  pub lines : List ℕ
  pub goes_on : GoesOn basis before events lines after
  pub count : length events ≡ max_events
  pub wrote : Appends old new lines
  pub shuts : how.shut ≡ false
  pub fault : how.fault ≡ false

-- a session from its first event to its end
abbrev pub IsServed : Basis → PlaceData → Option (List ℕ) → Option (List ℕ) → PlaceData → EndData
    → Type 0
IsServed basis before old new after how =
    EndsBy basis before old new after how ⊎ EndsFull basis before old new after how
