-- Crawling, watching and unwatching a root: the list of events after each of them, and the reasons
-- for a refusal. No public document defines it.
use Rattle.std.specs.Prelude.{◌≡◌, ◌≤◌, ◌⊎◌, ℕ, ℤ, length, refl, List}
use Rattle.std.specs.Prelude.{Option, Some, None, IfOk, IsTrue, Result, Ok, Err}
use Rattle.std.specs.Prelude.{Bool, true, false}
use Rattle.std.specs.List.{list_all}
use Rattle.std.specs.Coded.{Coded, code_by, coded×, coded_bool, coded_ℕ, coded_ℤ, coded_option}
use Rattle.wq_view.specs.Limit.{max_listing_rows}
use Rattle.wq_view.specs.View.{IsViewOf, ViewData}
use Rattle.wq_view.specs.Listing.{PassData, is_of_whole, listing_fault, listing_of}
use Rattle.wq_view.specs.Patch.{patched}
use Rattle.wq_view.specs.Change.{MakePass, pass_by}
use Rattle.wq_record.specs.Seen.{SeenData, is_count, is_lawful_row}
use Rattle.wq_view.specs.declared.listing.PassFault.{PassFault}
use Rattle.wq_live.specs.Log.{events_code}
use Rattle.wq_live.specs.declared.event.RootEvent.{RootEvent}
use Rattle.wq_patch.specs.Device.{Gave}
use Rattle.wq_live.specs.Event.{number_of, passes_over}
use Rattle.wq_crawl.specs.Publish.{EndsRoot, IsNotTakenIn, IsPlace, Passes, with_start}
use Rattle.wq_patch.specs.Tree.{IsCounted, ListedData, Lists, listed_code}
use Rattle.wq_patch.specs.declared.tree.Listing.{Listing}
use Rattle.wq_patch.specs.declared.tree.Listing.TheVariants.{Rows, Patches}
use Rattle.wq_patch.specs.declared.tree.TreeFault.{TreeFault}
use Rattle.wq_crawl.specs.declared.fault.CrawlFault.{CrawlFault}
use Rattle.wq_crawl.specs.declared.fault.CrawlFault.TheVariants.{Tree as NotListed, Pass as NoPass, TooManyRoots}
use Rattle.wq_crawl.specs.declared.fault.CrawlFault.TheVariants.{NoMemory}
use Rattle.wq_crawl.specs.declared.relisted.Relisted.{Relisted}
use Rattle.wq_crawl.specs.declared.relisted.Relisted.TheVariants.{Pass, Patched}
use Rattle.wq_crawl.specs.declared.place.Place.{Place}
use Rattle.wq_crawl.specs.declared.place.Place.TheVariants.{Shown, Full, Free}

-- the state that a crawler shows: the list of events that is published, and how often its tree
-- failed. If its clock shows them, also the last second of the clock and the number of its seconds.
-- If its tree shows them, the same for listings; and whether the last listing was of a whole root
pub record CrawlerData : Type 0 where
  pub events : List RootEvent
  pub clock : Option (ℕ × ℤ)
  pub listed : Option (ℕ × ListedData)
  pub failed : ℕ
  pub whole : Bool

-- a crawler as the tuple of its parts
abbrev pub crawler_code : Coded CrawlerData
crawler_code =
    code_by (List RootEvent × (Option (ℕ × ℤ) × (Option (ℕ × ListedData) × (ℕ × Bool))))
    (coded× events_code
    (coded× (coded_option (coded× coded_ℕ coded_ℤ))
    (coded× (coded_option (coded× coded_ℕ listed_code)) (coded× coded_ℕ coded_bool))))
    (λ c. (c.events, (c.clock, (c.listed, (c.failed, c.whole)))))
    (λ (events, (clock, (listed, (failed, whole)))). record {
      events = events;
      clock = clock;
      listed = listed;
      failed = failed;
      whole = whole;
    }) (λ _. refl)

-- the state that a lister shows: that of its tree and its clock
pub record ListerData : Type 0 where
  pub clock : Option (ℕ × ℤ)
  pub listed : Option (ℕ × ListedData)
  pub failed : ℕ
  pub whole : Bool

-- a lister as the tuple of its parts
abbrev pub lister_code : Coded ListerData
lister_code =
    code_by (Option (ℕ × ℤ) × (Option (ℕ × ListedData) × (ℕ × Bool)))
    (coded× (coded_option (coded× coded_ℕ coded_ℤ))
    (coded× (coded_option (coded× coded_ℕ listed_code)) (coded× coded_ℕ coded_bool)))
    (λ l. (l.clock, (l.listed, (l.failed, l.whole))))
    (λ (clock, (listed, (failed, whole))). record {
      clock = clock;
      listed = listed;
      failed = failed;
      whole = whole;
    }) (λ _. refl)

-- a crawler with this list and a lister in this state
abbrev pub crawler_at : List RootEvent → ListerData → CrawlerData
crawler_at events lister = record {
  events = events;
  clock = lister.clock;
  listed = lister.listed;
  failed = lister.failed;
  whole = lister.whole;
}

-- a pass has the rows that the tree gave for a root, if the tree shows its rows
abbrev pub IsOfRows : Option (ℕ × ListedData) → List ℕ → PassData → Option (ℕ × ListedData)
    → Type 0
IsOfRows before text pass None = Unit {0}
IsOfRows before text pass (Some after) =
    (rows : List SeenData) × Lists before text (Ok rows) (Some after)
    × (listing_fault rows pass.second ≡ None) × (pass ≡ listing_of rows pass.second)

-- a root was listed, and this is the pass over it, with the rows that the tree gave and the second
-- that the clock gave
abbrev pub IsPassOver : List ℕ → CrawlerData → PassData → CrawlerData → Type 0
IsPassOver text before pass after =
    IsOfRows before.listed text pass after.listed × Gave before.clock pass.second after.clock

-- a root had no pass, with this fault: the tree did not list it, and the clock was not asked; or
-- the rows that it listed, each of them lawful, make no pass at the second that the clock gave
abbrev pub IsNoPassOver : List ℕ → CrawlerData → CrawlFault → CrawlerData → Type 0
IsNoPassOver text before fault after =
    ((why : TreeFault) × Lists before.listed text (Err why) after.listed
    × (after.clock ≡ before.clock) × IsCounted before.failed after.failed why
    × (fault ≡ NotListed why))
    ⊎ ((rows : List SeenData) × (second : ℤ) × (why : PassFault)
    × Lists before.listed text (Ok rows) after.listed × Gave before.clock second after.clock
    × IsTrue (list_all is_lawful_row rows) × IsTrue (is_of_whole why)
    × (listing_fault rows second ≡ Some why) × (fault ≡ NoPass why))

-- a tree listed the root of this number: it gave these rows; or it found the files that exist by
-- the view of the passes over the root, but for patches. These are no more than a pass takes
abbrev pub ListsAgain : ℕ → List ℕ → CrawlerData → Listing → CrawlerData → Type 0
ListsAgain number text before (Rows rows) after =
    Lists before.listed text (Ok rows.items) after.listed
    × IsTrue (list_all is_lawful_row rows.items)
ListsAgain number text before (Patches patches) after =
    (view : ViewData) × IsViewOf (passes_over number before.events) view
    × Lists before.listed text (Ok (patched view.records patches.items)) after.listed
    × MakePass view.records patches.items
    × (length (patched view.records patches.items) ≤ max_listing_rows)

-- a root was listed: there is this pass; or there is the one at this second which differs by these
-- patches from the view of the passes over the root
abbrev pub IsRelisted : ℕ → List ℕ → CrawlerData → Relisted → CrawlerData → Type 0
IsRelisted number text before (Pass pass) after = IsPassOver text before pass after
IsRelisted number text before (Patched patches second) after =
    (view : ViewData) × IsViewOf (passes_over number before.events) view
    × IsPassOver text before (pass_by view.records patches.items second) after
    × MakePass view.records patches.items × IsTrue (is_count second)

-- what a listing of the root of this number came to can be published over this list: patches fit
-- the view of the passes over the root
abbrev pub IsTakable : ℕ → List RootEvent → Relisted → Type 0
IsTakable number events (Patched patches second) =
    (view : ViewData) × IsViewOf (passes_over number events) view
    × MakePass view.records patches.items × IsTrue (is_count second)
IsTakable number events _ = Unit {0}

-- a root that is shown was crawled: it was listed, a pass over it is added if that is news, and the
-- list is returned. If the crawl is refused, nothing is added
abbrev pub CrawledAt : ℕ → List ℕ → CrawlerData → Result (List RootEvent) CrawlFault
    → CrawlerData → Type 0
CrawledAt number text before (Ok told) after =
    (told ≡ after.events) × (pass : PassData) × IsPassOver text before pass after
    × Passes before.events number pass after.events
CrawledAt number text before (Err fault) after =
    (after.events ≡ before.events)
    × (IsNoPassOver text before fault after
    ⊎ ((pass : PassData) × IsPassOver text before pass after
    × IsNotTakenIn before.events number pass fault))

-- the same, by a listing of the whole root
abbrev pub CrawledWhole : ℕ → List ℕ → CrawlerData → Result (List RootEvent) CrawlFault
    → CrawlerData → Type 0
CrawledWhole number text before result after =
    CrawledAt number text before result after × IfOk result (λ _. IsTrue after.whole)

-- the list that is returned, if it is not refused
abbrev pub tells : Result (List RootEvent) CrawlFault → Result (Option (List RootEvent)) CrawlFault
tells (Ok told) = Ok (Some told)
tells (Err fault) = Err fault

-- a root was crawled whole; a root that is not shown has no crawl, and nothing is returned
abbrev pub Crawled : List ℕ → CrawlerData → Result (Option (List RootEvent)) CrawlFault
    → CrawlerData → Type 0
Crawled text before result after =
    ((number_of text before.events ≡ None) × (result ≡ Ok None) × (after ≡ before))
    ⊎ ((number : ℕ) × (answer : Result (List RootEvent) CrawlFault)
    × (number_of text before.events ≡ Some number) × (result ≡ tells answer)
    × CrawledWhole number text before answer after)

-- whether a glance was made that was not refused
abbrev pub makes : Result (List RootEvent) CrawlFault → Result Bool CrawlFault
makes (Ok told) = Ok true
makes (Err fault) = Err fault

-- a glance was made at a root: it, or a part of it, was crawled, and of that list nothing is
-- returned. Or there was no glance, and nothing changed
abbrev pub Glanced : List ℕ → CrawlerData → Result Bool CrawlFault → CrawlerData → Type 0
Glanced text before result after =
    ((result ≡ Ok false) × (after ≡ before))
    ⊎ ((number : ℕ) × (answer : Result (List RootEvent) CrawlFault)
    × (number_of text before.events ≡ Some number) × (result ≡ makes answer)
    × CrawledAt number text before answer after)

-- the present list is returned, unless memory ran out for that
abbrev pub Shared : CrawlerData → Result (List RootEvent) CrawlFault → CrawlerData → Type 0
Shared before (Ok told) after = (told ≡ before.events) × (after ≡ before)
Shared before (Err fault) after = (fault ≡ NoMemory) × (after ≡ before)

-- a root that is not shown was listed whole and started with a pass over it, and the list is
-- returned. If it is refused, nothing is added
abbrev pub Began : List ℕ → CrawlerData → Result (List RootEvent) CrawlFault → CrawlerData → Type 0
Began text before (Ok told) after =
    (told ≡ after.events) × (pass : PassData) × IsPassOver text before pass after
    × (after.events ≡ with_start text pass before.events) × IsTrue after.whole
Began text before (Err fault) after =
    (after.events ≡ before.events) × (IsNoPassOver text before fault after ⊎ (fault ≡ NoMemory))

-- a root in this state was watched. If it is shown, the list is returned. If no more can be
-- started, the root is refused before it is listed. Any other root was started
abbrev pub WatchedAt : Place → List ℕ → CrawlerData → Result (List RootEvent) CrawlFault
    → CrawlerData → Type 0
WatchedAt (Shown number) text before result after = Shared before result after
WatchedAt Full text before result after = (result ≡ Err TooManyRoots) × (after ≡ before)
WatchedAt Free text before result after = Began text before result after

-- a root was watched
abbrev pub Watched : List ℕ → CrawlerData → Result (List RootEvent) CrawlFault → CrawlerData
    → Type 0
Watched text before result after =
    (place : Place) × IsPlace text before.events place × WatchedAt place text before result after

-- a root was unwatched by its number: its end is added if it is shown, and the list is returned. If
-- the call is refused, nothing is added
abbrev pub Unwatched : ℕ → CrawlerData → Result (List RootEvent) CrawlFault → CrawlerData → Type 0
Unwatched number before (Ok told) after =
    (told ≡ after.events) × EndsRoot before.events number after.events
    × (after ≡ record before { events = after.events })
Unwatched number before (Err fault) after = (fault ≡ NoMemory) × (after ≡ before)
