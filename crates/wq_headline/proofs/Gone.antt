-- An answer to a client that may go: as to one that may not, or the client has gone.
use Rattle.std.proofs.Common.{◌⊎◌, true, false, List, Option, Some, None, Ok, Err, inl, inr}
use Rattle.wq_ask.specs.declared.ask.Ask.{Ask}
use Rattle.wq_crawl.specs.At.{AtData}
use Rattle.wq_crawl.specs.Views.{ReadyData}
use Rattle.wq_follow.specs.Subscription.{SubscriptionData}
use Rattle.wq_session.specs.Answer.{AnswersAsk}
use Rattle.wq_session.specs.At.{ShelfNow}
use Rattle.wq_session.specs.Desk.{AnswersShelf, Replies, StandData}
use Rattle.wq_session.specs.Out.{OutData}
use Rattle.wq_headline.specs.Gone.{LeavesList}

-- of an answer at a shelf
pub stayed : (ask : Ask) (at : Option AtData) (shelf : ShelfNow) (follows : List SubscriptionData) (out : OutData) (after : ShelfNow)
    (left : List SubscriptionData) → AnswersAsk true ask at shelf follows out after left
    → LeavesList ask at shelf out ⊎ AnswersAsk false ask at shelf follows out after left
stayed ask at shelf follows out after left (inl is) = inr (inl is)
stayed ask at shelf follows out after left (inr (inl short)) = inr (inr (inl short))
stayed ask at shelf follows out after left (inr (inr (plan, cursor, work, inl ran, unset, stays))) =
    inr (inr (inr (plan, cursor, work, ran, unset, stays)))
stayed ask at shelf follows out after left (inr (inr (plan, cursor, work, inr goes, unset, stays))) = inl (plan, cursor, work, goes)

-- the client had gone when files were listed for its ask, at a root and a shelf
abbrev pub LeftList : Ask → OutData → Type 0
LeftList ask out = (at : Option AtData) × (shelf : ShelfNow) × LeavesList ask at shelf out

-- of an answer at a shelf that is shown, or is not
stayed_at : (shown : Option ShelfNow) (follows : List SubscriptionData) (ask : Ask) (at : Option AtData) (out : OutData) (after : Option ShelfNow)
    (left : List SubscriptionData) → AnswersShelf true shown follows ask at out after left → LeftList ask out ⊎ AnswersShelf false shown follows ask at out after left
stayed_at (Some shelf) follows ask at out after left (next, answers, is) = by (stayed ask at shelf follows out next left answers)
  where
    by : LeavesList ask at shelf out ⊎ AnswersAsk false ask at shelf follows out next left → LeftList ask out ⊎ AnswersShelf false (Some shelf) follows ask at out after left
    by (inl goes) = inl (at, shelf, goes)
    by (inr answered) = inr (next, answered, is)
stayed_at None follows ask at out after left (shelf, next, reached, answers, is) = by (stayed ask at shelf follows out next left answers)
  where
    by : LeavesList ask at shelf out ⊎ AnswersAsk false ask at shelf follows out next left → LeftList ask out ⊎ AnswersShelf false None follows ask at out after left
    by (inl goes) = inl (at, shelf, goes)
    by (inr answered) = inr (shelf, next, reached, answered, is)

-- of a reply
pub stayed_reply : (ready : ReadyData) (ask : Ask) (stand : StandData) (out : OutData) (after : StandData) → Replies true ready ask stand out after
    → LeftList ask out ⊎ Replies false ready ask stand out after
stayed_reply (Ok at) ask stand out after answers = stayed_at stand.shelf stand.follows ask at out after.shelf after.follows answers
stayed_reply (Err fault) ask stand out after refused = inr refused
