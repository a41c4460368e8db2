-- The requests of a session to the roots, and their answers. No public document defines it.
use Rattle.std.specs.Prelude.{◌≡◌, ℕ, Bool, List, Option, Some, None, Result}
use Rattle.wq_live.specs.declared.event.RootEvent.{RootEvent}
use Rattle.wq_crawl.specs.declared.fault.CrawlFault.{CrawlFault}
use Rattle.wq_crawl.specs.Crawl.{CrawlerData, Crawled, Glanced, Watched, Unwatched, tells}

-- a request of a session to the roots
pub data RootRequestData : Type 0 where
  -- a pass over the root of this text, if it is shown
  passing : (root : List ℕ) → RootRequestData
  -- the start of the root of this text, unless it is shown
  showing : (root : List ℕ) → RootRequestData
  -- the end of the root of this number
  ending : (number : ℕ) → RootRequestData

-- a crawler did a request, with this answer: the list of events, if one is returned; or the reason
-- for which the request was refused
abbrev pub Fulfils : RootRequestData → CrawlerData → Result (Option (List RootEvent)) CrawlFault
    → CrawlerData → Type 0
Fulfils (passing root) before told after = Crawled root before told after
Fulfils (showing root) before told after =
    (answer : Result (List RootEvent) CrawlFault) × (told ≡ tells answer)
    × Watched root before answer after
Fulfils (ending number) before told after =
    (answer : Result (List RootEvent) CrawlFault) × (told ≡ tells answer)
    × Unwatched number before answer after

-- the roots do a request of a session, and give this answer. If they show a crawler, they do it by
-- that crawler, and show its state afterwards. If they show none, they do it by some crawler
abbrev pub RootsGive : Option CrawlerData → RootRequestData
    → Result (Option (List RootEvent)) CrawlFault → Option CrawlerData → Type 0
RootsGive (Some before) request told after =
    (left : CrawlerData) × Fulfils request before told left × (after ≡ Some left)
RootsGive None request told after =
    (before : CrawlerData) × (left : CrawlerData) × Fulfils request before told left
    × (after ≡ None)

-- roots that show no crawler made a glance at the root of this text by some crawler, with this
-- answer
abbrev pub GlanceAt : List ℕ → Result Bool CrawlFault → Type 0
GlanceAt text result =
    (before : CrawlerData) × (left : CrawlerData) × Glanced text before result left
