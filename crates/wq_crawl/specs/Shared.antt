-- The crawls of threads that share a publisher: each lane lists a root by its own lister, and
-- publishes what the listing comes to. No public document defines it.
use Rattle.std.specs.Prelude.{◌≡◌, ◌≤◌, ◌⊎◌, ℕ, zero, suc, List, Option, Some, None}
use Rattle.std.specs.Prelude.{Bool, true, false, IfOk, IsTrue, Result, Ok, Err}
use Rattle.wq_view.specs.Listing.{PassData}
use Rattle.wq_live.specs.Event.{number_of}
use Rattle.wq_live.specs.declared.event.RootEvent.{RootEvent}
use Rattle.wq_crawl.specs.Answer.{CrawlData, told_list}
use Rattle.wq_crawl.specs.Crawl.{CrawledAt, IsRelisted, ListerData, Watched, crawler_at}
use Rattle.wq_crawl.specs.Crawl.{makes, tells}
use Rattle.wq_patch.specs.Device.{count_of}
use Rattle.wq_crawl.specs.Publish.{IsPlace, with_start}
use Rattle.wq_patch.specs.Tree.{ListedData}
use Rattle.wq_crawl.specs.declared.fault.CrawlFault.{CrawlFault}
use Rattle.wq_crawl.specs.declared.fault.CrawlFault.TheVariants.{NoMemory, TooManyRoots}
use Rattle.wq_crawl.specs.declared.place.Place.{Place}
use Rattle.wq_crawl.specs.declared.place.Place.TheVariants.{Shown, Full, Free}
use Rattle.wq_crawl.specs.declared.relisted.Relisted.{Relisted}

-- a root was looked for in this list: it is shown, and the list is returned unless memory ran out
-- for it; or no more root can be started, and that is the refusal; or there is room for it
abbrev pub FindsOrRefuses : List ℕ → List RootEvent → Place
    → Result (Option (List RootEvent)) CrawlFault → Type 0
FindsOrRefuses text events (Shown number) result =
    (number_of text events ≡ Some number) × ((result ≡ Ok (Some events)) ⊎ (result ≡ Err NoMemory))
FindsOrRefuses text events Full result =
    IsPlace text events Full × (result ≡ Err TooManyRoots)
FindsOrRefuses text events Free result = IsPlace text events Free × (result ≡ Ok None)

-- a root was started with a pass in this list, unless the list shows it or has no room for it; or
-- memory ran out for that
abbrev pub StartsRoot : List ℕ → PassData → List RootEvent → Place
    → Result (List RootEvent) CrawlFault → Type 0
StartsRoot text pass events (Shown number) result =
    (number_of text events ≡ Some number) × ((result ≡ Ok events) ⊎ (result ≡ Err NoMemory))
StartsRoot text pass events Full result =
    IsPlace text events Full × (result ≡ Err TooManyRoots)
StartsRoot text pass events Free result =
    IsPlace text events Free
    × ((result ≡ Ok (with_start text pass events)) ⊎ (result ≡ Err NoMemory))

-- a lister has listed at least as often as before, if it shows its listings
abbrev pub IsNotBefore : Option (ℕ × ListedData) → Option (ℕ × ListedData) → Type 0
IsNotBefore before None = Unit {0}
IsNotBefore before (Some (count, last)) = count_of before ≤ count

-- a lane crawled the root of this text: it listed the root beside a list that shows it, and
-- published what the listing came to over a list in which the root was the same
abbrev pub CrawledFrom : List ℕ → ListerData → Result (List RootEvent) CrawlFault → ListerData
    → Type 0
CrawledFrom text before (Ok told) after =
    (events : List RootEvent) × (number : ℕ) × (number_of text events ≡ Some number)
    × CrawledAt number text (crawler_at events before) (Ok told) (crawler_at told after)
CrawledFrom text before (Err fault) after =
    (events : List RootEvent) × (number : ℕ) × (number_of text events ≡ Some number)
    × CrawledAt number text (crawler_at events before) (Err fault) (crawler_at events after)

-- a listing was to be published: it was, and this is the answer; or it was refused; or it was
-- overtaken, and there is no answer
abbrev pub Publishes : List ℕ → ListerData → Result (Option (Option CrawlData)) CrawlFault
    → ListerData → Type 0
Publishes text before (Ok None) after = Unit {0}
Publishes text before (Ok (Some None)) after = ⊥
Publishes text before (Ok (Some (Some crawl))) after = CrawledFrom text before (Ok crawl.told) after
Publishes text before (Err fault) after = CrawledFrom text before (Err fault) after

-- a lane listed the root of this text, beside a list that shows it. What the listing came to was
-- not published, since another pass over the root was published meanwhile
abbrev pub Overtaken : List ℕ → ListerData → ListerData → Type 0
Overtaken text before after =
    (events : List RootEvent) × (number : ℕ) × (relisted : Relisted)
    × (number_of text events ≡ Some number)
    × IsRelisted number text (crawler_at events before) relisted (crawler_at events after)

-- so many listings were overtaken, one after the other
abbrev pub Tries : ℕ → List ℕ → ListerData → ListerData → Type 0
Tries zero text first now = now ≡ first
Tries (suc tries) text first now =
    (before : ListerData) × Tries tries text first before × Overtaken text before now

-- nothing was crawled: the root is not shown; or memory ran out for the present list; or that list
-- is returned, and shows the root
abbrev pub Shares : List ℕ → Result (Option (List RootEvent)) CrawlFault → Type 0
Shares text result =
    ((events : List RootEvent) × (number_of text events ≡ None) × (result ≡ Ok None))
    ⊎ ((events : List RootEvent) × (number : ℕ) × (number_of text events ≡ Some number)
    × (result ≡ Err NoMemory))
    ⊎ ((events : List RootEvent) × (number : ℕ) × (number_of text events ≡ Some number)
    × (result ≡ Ok (Some events)))

-- a lane crawled a whole root, or did nothing
abbrev pub CrawledNow : List ℕ → ListerData → Result (Option (List RootEvent)) CrawlFault
    → ListerData → Type 0
CrawledNow text before result after =
    ((answer : Result (List RootEvent) CrawlFault) × (result ≡ tells answer)
    × CrawledFrom text before answer after × IfOk answer (λ _. IsTrue after.whole))
    ⊎ ((after ≡ before) × Shares text result)

-- the same after some listings that were overtaken
abbrev pub CrawledOnce : List ℕ → ListerData → Result (Option (List RootEvent)) CrawlFault
    → ListerData → Type 0
CrawledOnce text first result after =
    (tries : ℕ) × (before : ListerData) × Tries tries text first before
    × CrawledNow text before result after

-- a lane tried to crawl a root. If there is no answer, nothing was listed, or the listing was
-- overtaken
abbrev pub TriesOnce : List ℕ → ListerData → Result (Option (Option CrawlData)) CrawlFault
    → ListerData → Type 0
TriesOnce text before (Ok None) after = (after ≡ before) ⊎ Overtaken text before after
TriesOnce text before (Ok (Some crawl)) after = CrawledNow text before (told_list (Ok crawl)) after
TriesOnce text before (Err fault) after = CrawledNow text before (Err fault) after

-- what a glance came to was to be published: it was, or was refused; or it was overtaken
abbrev pub PublishesGlance : List ℕ → ListerData → Result Bool CrawlFault → ListerData → Type 0
PublishesGlance text before (Ok true) after =
    (told : List RootEvent) × CrawledFrom text before (Ok told) after
PublishesGlance text before (Ok false) after = Unit {0}
PublishesGlance text before (Err fault) after = CrawledFrom text before (Err fault) after

-- a glance was made at a root: it, or a part of it, was crawled. Or there was no glance, since
-- there is nothing to look at, or since it was overtaken; or since memory ran out for the present
-- list, which shows the root
abbrev pub GlancedBetween : List ℕ → ListerData → Result Bool CrawlFault → ListerData → Type 0
GlancedBetween text before result after =
    ((answer : Result (List RootEvent) CrawlFault) × (result ≡ makes answer)
    × CrawledFrom text before answer after)
    ⊎ (((after ≡ before) ⊎ Overtaken text before after) × (result ≡ Ok false))
    ⊎ ((after ≡ before) × (events : List RootEvent) × (number : ℕ)
    × (number_of text events ≡ Some number) × (result ≡ Err NoMemory))

-- a lane watched a root by a listing that it began after this state of its lister
abbrev pub WatchedBetween : List ℕ → ListerData → Result (List RootEvent) CrawlFault → ListerData
    → Type 0
WatchedBetween text before result after =
    (began : ListerData) × (events : List RootEvent) × (later : List RootEvent)
    × IsNotBefore before.listed began.listed
    × Watched text (crawler_at events began) result (crawler_at later after)
