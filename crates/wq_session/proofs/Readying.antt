-- The answer to an ask that is ready, or whose root was refused.
use Rattle.std.proofs.Common.{◌≡◌, ℕ, Bool, true, [], List, Option, Some, None, option_map, Result, Ok, Err, inl, inr, refl, sym, ap, subst}
use Rattle.wq_crawl.specs.declared.fault.CrawlFault.{CrawlFault}
use Rattle.wq_follow.specs.Subscription.{SubscriptionData}
use Rattle.wq_registry.specs.Shelf.{blank}
use Rattle.wq_session.specs.Out.{MayRefuse, OutData, runs_out}
use Rattle.wq_crawl.specs.Need.{NeedData}
use Rattle.wq_session.specs.Need.{need_of}
use Rattle.wq_ask.specs.declared.ask.Ask.{Ask}
use Rattle.wq_ask.specs.declared.ask.Ask.TheVariants.{Alone, OfRoot, OfShelf, Unwatch, Watch}
use Rattle.wq_ask.specs.declared.refusal.Refusal.TheVariants.{NoMemory}
use Rattle.wq_crawl.specs.At.{AtData}
use Rattle.wq_session.specs.At.{ShelfNow}
use Rattle.wq_session.specs.Begun.{takes_memory}
use Rattle.wq_session.specs.Crawl.{crawl_refusal}
use Rattle.wq_session.specs.Desk.{AnswersAt, AnswersShelf, StandData}
use Rattle.wq_crawl.specs.Views.{ReadyData, SaysReady, is_of_root, root_at_data}
use Rattle.wq_session.specs.Desk.{Replies}
use Rattle.wq_crawl.specs.declared.views.RootAt.{RootAt}
use Rattle.wq_session.specs.Reached.{IsReached}

-- memory may run out for an ask about a root
root_takes_memory : (ask : Ask) → is_of_root (need_of ask) ≡ true → takes_memory ask ≡ true
root_takes_memory (Watch root) is = refl
root_takes_memory (Unwatch root) is = refl
root_takes_memory (OfRoot root crawl what) is = refl
root_takes_memory (OfShelf what) is = refl
root_takes_memory (Alone what) is = absurd (cc is)

-- an empty shelf is reached
pub blank_reached : (sockname : List ℕ) → IsReached (blank sockname)
unfolding IsReached
blank_reached sockname = (sockname, [], refl)

-- the refusal says that memory ran out
says_short : (out : OutData) → MayRefuse NoMemory out → out ≡ runs_out None
says_short out (inl is) = is
says_short out (inr (goes, is)) = is

-- the shelf and the subscriptions stay, at a shelf that is shown, and at one that is not
stays_short : (may_go : Bool) (shelf : Option ShelfNow) (follows : List SubscriptionData) (ask : Ask) (at : Option AtData) (out : OutData) → takes_memory ask ≡ true
    → out ≡ runs_out None → AnswersShelf may_go shelf follows ask at out shelf follows
stays_short may_go (Some shelf) follows ask at out takes is = (shelf, inr (inl (takes, is, refl, refl)), refl)
stays_short may_go None follows ask at out takes is = (blank [], blank [], blank_reached [], inr (inl (takes, is, refl, refl)), refl)

module _ (may_go : Bool) (ask : Ask) (ready : ReadyData) (now : StandData) (out : OutData) where
  -- the answer at the root that is looked at
  pub answered_ready : (root : Option RootAt) (after : StandData) → SaysReady (need_of ask) ready (Ok root)
      → AnswersAt may_go now ask (option_map root_at_data root) out after → Replies may_go ready ask now out after
  answered_ready root after is answers =
      subst (λ (r : ReadyData). Replies may_go r ask now out after) (sym is) answers

  -- a refusal, which leaves the shelf and the subscriptions
  pub refused_ready : (fault : CrawlFault) → SaysReady (need_of ask) ready (Err fault) → MayRefuse (crawl_refusal fault) out
      → Replies may_go ready ask now out now
  refused_ready fault (inl is) may = subst (λ (r : ReadyData). Replies may_go r ask now out now) (sym is) (may, refl)
  refused_ready fault (inr (short, needs, at, is)) may =
      subst (λ (r : ReadyData). Replies may_go r ask now out now) (sym is)
      (stays_short may_go now.shelf now.follows ask at out (root_takes_memory ask needs)
      (says_short out (subst (λ (f : CrawlFault). MayRefuse (crawl_refusal f) out) short may)))
