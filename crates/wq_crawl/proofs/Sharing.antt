-- The answer under a lane's lock is the answer of some crawler.
use Rattle.std.proofs.Common.{◌≡◌, ℕ, pos, List, Option, Some, None, Result, Ok, Err, IfOk, IsTrue, MatchResult, true, false, Bool, [], inl, inr, refl, rules, sym, subst}
use Rattle.wq_live.specs.Event.{IsFull, number_of, passes_over}
use Rattle.wq_live.specs.declared.event.RootEvent.{RootEvent}
use Rattle.wq_view.specs.History.{last_stats}
use Rattle.wq_view.specs.Listing.{PassData}
use Rattle.wq_crawl.specs.declared.fault.CrawlFault.{CrawlFault}
use Rattle.wq_crawl.specs.declared.fault.CrawlFault.TheVariants.{NoMemory}
use Rattle.wq_crawl.specs.Crawl.{ListerData, crawler_at, makes, tells}
use Rattle.wq_crawl.specs.Answer.{CrawlData, IsAnswer, told_list}
use Rattle.wq_crawl.specs.Publish.{EndsRoot}
use Rattle.wq_crawl.specs.declared.place.Place.TheVariants.{Free}
use Rattle.wq_crawl.specs.Shared.{CrawledFrom, CrawledOnce, GlancedBetween, Shares}
use Rattle.wq_crawl.specs.Roots.{GlanceAt, RootsGive, ending, passing, showing}

-- a lister that shows nothing
abbrev blind : ListerData
blind = record { clock = None; listed = None; failed = 0; whole = true }

-- a pass that sees the same as the last one over the root of this number
abbrev same_again : ℕ → List RootEvent → PassData
same_again number events = record { stats = last_stats (passes_over number events); second = pos 0 }

-- a thread that got the present list: it is as if it had crawled and found no change
still_gives : (text : List ℕ) (events : List RootEvent) (number : ℕ) → number_of text events ≡ Some number → RootsGive None (passing text) (Ok (Some events)) None
still_gives text events number shown = (
  crawler_at events blind,
  crawler_at events blind,
  inr (number, Ok events, shown, refl, ((refl, same_again number events, (tt, tt), inl (inr refl, refl)), refl)),
  refl,
)

-- a thread for which memory ran out: it is as if it had for the pass
lacking_gives : (text : List ℕ) (events : List RootEvent) (number : ℕ) → number_of text events ≡ Some number → RootsGive None (passing text) (Err NoMemory) None
lacking_gives text events number shown = (
  crawler_at events blind,
  crawler_at events blind,
  inr (number, Err NoMemory, shown, refl, ((refl, inr (same_again number events, (tt, tt), inr (refl, (λ wants. wants.0.1 refl)))), tt)),
  refl,
)

-- a client that has gone and gets no root: it is as if memory had run out for one that was not shown
pub left_gives : (text : List ℕ) → RootsGive None (showing text) (Err NoMemory) None
left_gives text = (
  crawler_at [] blind,
  crawler_at [] blind,
  (Err NoMemory, refl, (Free, (refl, λ (full : IsFull []). search (full, rules)), (refl, inr refl))),
  refl,
)

-- a root that is not shown
gone_gives : (text : List ℕ) (events : List RootEvent) → number_of text events ≡ None → RootsGive None (passing text) (Ok None) None
gone_gives text events gone = (crawler_at events blind, crawler_at events blind, inl (gone, refl, refl), refl)

-- an answer that a root is not shown
pub gone_told : (published : List RootEvent → Type 0) (text : List ℕ) (crawl : Option CrawlData) → crawl ≡ None → IsAnswer published text crawl
    → RootsGive None (passing text) (told_list (Ok crawl)) None
gone_told published text None is (events, given, gone) = gone_gives text events gone
gone_told published text (Some crawl) is answer = search (rules)

-- a refusal while the root is shown
pub lacking_told : (text : List ℕ) → ((events : List RootEvent) × (number : ℕ) × (number_of text events ≡ Some number)) → RootsGive None (passing text) (Err NoMemory) None
lacking_told text (events, number, shown) = lacking_gives text events number shown

shared_gives : (text : List ℕ) (result : Result (Option (List RootEvent)) CrawlFault) → Shares text result → RootsGive None (passing text) result None
shared_gives text result (inl (events, gone, is)) = subst (λ r. RootsGive None (passing text) r None) (sym is) (gone_gives text events gone)
shared_gives text result (inr (inl (events, number, shown, is))) = subst (λ r. RootsGive None (passing text) r None) (sym is) (lacking_gives text events number shown)
shared_gives text result (inr (inr (events, number, shown, is))) = subst (λ r. RootsGive None (passing text) r None) (sym is) (still_gives text events number shown)

crawled_gives : (text : List ℕ) (before after : ListerData) (answer : Result (List RootEvent) CrawlFault) → CrawledFrom text before answer after
    → IfOk answer (λ _. IsTrue after.whole) → RootsGive None (passing text) (tells answer) None
crawled_gives text before after (Ok told) (events, number, shown, crawled) whole =
    (crawler_at events before, crawler_at told after, inr (number, Ok told, shown, refl, (crawled, whole)), refl)
crawled_gives text before after (Err fault) (events, number, shown, crawled) whole =
    (crawler_at events before, crawler_at events after, inr (number, Err fault, shown, refl, (crawled, tt)), refl)

pub once_gives : (text : List ℕ) (first after : ListerData) (result : Result (Option (List RootEvent)) CrawlFault)
    → CrawledOnce text first result after → RootsGive None (passing text) result None
once_gives text first after result (tries, before, tried, inl (answer, is, crawled, whole)) =
    subst (λ r. RootsGive None (passing text) r None) (sym is) (crawled_gives text before after answer crawled whole)
once_gives text first after result (tries, before, tried, inr (same, shares)) = shared_gives text result shares

-- no glance was made
pub no_glance : (text : List ℕ) → GlanceAt text (Ok false)
no_glance text = (crawler_at [] blind, crawler_at [] blind, inl (refl, refl))

-- a glance for which memory ran out: it is as if it had for the pass
lacking_glance : (text : List ℕ) (events : List RootEvent) (number : ℕ) → number_of text events ≡ Some number → GlanceAt text (Err NoMemory)
lacking_glance text events number shown = (
  crawler_at events blind,
  crawler_at events blind,
  inr (number, Err NoMemory, shown, refl, (refl, inr (same_again number events, (tt, tt), inr (refl, (λ wants. wants.0.1 refl))))),
)

made_gives : (text : List ℕ) (before after : ListerData) (answer : Result (List RootEvent) CrawlFault) → CrawledFrom text before answer after → GlanceAt text (makes answer)
made_gives text before after (Ok told) (events, number, shown, crawled) =
    (crawler_at events before, crawler_at told after, inr (number, Ok told, shown, refl, crawled))
made_gives text before after (Err fault) (events, number, shown, crawled) =
    (crawler_at events before, crawler_at events after, inr (number, Err fault, shown, refl, crawled))

pub glanced_gives : (text : List ℕ) (before after : ListerData) (result : Result Bool CrawlFault) → GlancedBetween text before result after → GlanceAt text result
glanced_gives text before after result (inl (answer, is, crawled)) = subst (GlanceAt text) (sym is) (made_gives text before after answer crawled)
glanced_gives text before after result (inr (inl (listed, is))) = subst (GlanceAt text) (sym is) (no_glance text)
glanced_gives text before after result (inr (inr (same, events, number, shown, is))) = subst (GlanceAt text) (sym is) (lacking_glance text events number shown)

-- a root that was ended
pub ended_gives : (number : ℕ) (events : List RootEvent) (result : Result (List RootEvent) CrawlFault) → MatchResult result (λ told. EndsRoot events number told) (λ fault. fault ≡ NoMemory)
    → RootsGive None (ending number) (tells result) None
ended_gives number events (Ok told) ends = (crawler_at events blind, crawler_at told blind, (Ok told, refl, (refl, ends, refl)), refl)
ended_gives number events (Err fault) lacking = (crawler_at events blind, crawler_at events blind, (Err fault, refl, (lacking, refl)), refl)
