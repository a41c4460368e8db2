-- The events at the shelf that all clients share, while it is held for one of them.
-- It is this server's own.
use Rattle.std.specs.Prelude.{◌≡◌, Bool, List, Option, Some, None, option_map, Ok, Err}
use Rattle.wq_follow.specs.Subscription.{SubscriptionData}
use Rattle.wq_registry.specs.Shelf.{cursor_unset}
use Rattle.wq_session.specs.Out.{MayRefuse, OutData}
use Rattle.wq_ask.specs.declared.ask.Ask.{Ask}
use Rattle.wq_session.specs.declared.cursor.Cursor.{Cursor}
use Rattle.wq_session.specs.Answer.{AnswersAsk, TakesAsk}
use Rattle.wq_session.specs.Work.{WorkData}
use Rattle.wq_crawl.specs.At.{AtData}
use Rattle.wq_crawl.specs.Views.{ReadyData}
use Rattle.wq_session.specs.At.{ShelfNow}
use Rattle.wq_session.specs.Crawl.{crawl_refusal}
use Rattle.wq_session.specs.Reached.{IsReached}

-- an ask is taken at a shelf. If a shelf is shown, that one is used, and the result is then shown.
-- If none is shown, it is some shelf that the acts of sessions lead to
abbrev pub HoldsShelf : Option ShelfNow → Ask → Option AtData → WorkData → Option ShelfNow → Type 0
HoldsShelf (Some shelf) ask at work after =
    (left : ShelfNow) × TakesAsk ask at shelf work left × (after ≡ Some left)
HoldsShelf None ask at work after =
    (shelf : ShelfNow) × (left : ShelfNow) × IsReached shelf × TakesAsk ask at shelf work left
    × (after ≡ None)

-- a cursor is unset on the shelf, if one is shown
abbrev pub Unsets : Option ShelfNow → Cursor → Option ShelfNow → Type 0
Unsets shelf cursor after = after ≡ option_map (cursor_unset cursor.root cursor.name) shelf

-- the state when a session answers: the shelf, if one is shown, and the session's subscriptions
pub record StandData : Type 0 where
  pub shelf : Option ShelfNow
  pub follows : List SubscriptionData

-- the state, from its parts
abbrev pub stand : Option ShelfNow → List SubscriptionData → StandData
stand shelf follows = record { shelf = shelf; follows = follows }

-- an ask is answered at a shelf. If a shelf is shown, that one is used, and the result is then
-- shown. If none is shown, it is some shelf that the acts of sessions lead to. The subscriptions of
-- the session are these, and then those that are left. The client may go, or may not
abbrev pub AnswersShelf : Bool → Option ShelfNow → List SubscriptionData → Ask → Option AtData
    → OutData → Option ShelfNow → List SubscriptionData → Type 0
AnswersShelf may_go (Some shelf) follows ask at out after left =
    (next : ShelfNow) × AnswersAsk may_go ask at shelf follows out next left × (after ≡ Some next)
AnswersShelf may_go None follows ask at out after left =
    (shelf : ShelfNow) × (next : ShelfNow) × IsReached shelf
    × AnswersAsk may_go ask at shelf follows out next left × (after ≡ None)

-- an ask is answered in this state
abbrev pub AnswersAt : Bool → StandData → Ask → Option AtData → OutData → StandData → Type 0
AnswersAt may_go stand ask at out after =
    AnswersShelf may_go stand.shelf stand.follows ask at out after.shelf after.follows

-- an ask that is ready is answered at the shelf; or its line is refused because its root could not
-- be crawled, opened or retired, which leaves the shelf and the subscriptions
abbrev pub Replies : Bool → ReadyData → Ask → StandData → OutData → StandData → Type 0
Replies may_go (Ok at) ask stand out after = AnswersAt may_go stand ask at out after
Replies may_go (Err fault) ask stand out after =
    MayRefuse (crawl_refusal fault) out × (after ≡ stand)
