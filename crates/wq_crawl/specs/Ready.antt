-- The steps before the shelf is held for an ask: the session learns what the roots tell, and looks
-- at the root.
-- From Watchman's documentation of synchronisation (`sync_timeout`), `watch` and `watch-del`.
use Rattle.std.specs.Prelude.{◌≡◌, ◌⊎◌, List, ℕ, Option, Some, None, Result, Ok, Err}
use mathlib.Core.List.{IsPrefix}
use Rattle.wq_clock.specs.Instance.{InstanceData}
use Rattle.wq_live.specs.declared.event.RootEvent.{RootEvent}
use Rattle.wq_crawl.specs.Need.{NeedData, none, look, crawl, watch, unwatch}
use Rattle.wq_crawl.specs.At.{AtData}
use Rattle.wq_crawl.specs.Views.{ReadyData}
use Rattle.wq_crawl.specs.declared.fault.CrawlFault.{CrawlFault}
use Rattle.wq_crawl.specs.Crawl.{CrawlerData, tells}
use Rattle.wq_crawl.specs.Roots.{RootRequestData, RootsGive, passing, showing, ending}
use Rattle.wq_crawl.specs.Run.{ShowsAt}
use Rattle.wq_crawl.specs.Basis.{Basis}

-- a session's knowledge of the roots: the crawler that they go by, if it is shown, and the list of
-- events that its next look begins with
pub record KnownData : Type 0 where
  pub roots : Option CrawlerData
  pub seen : List RootEvent

-- the knowledge of the roots, from its parts
abbrev pub known : Option CrawlerData → List RootEvent → KnownData
known roots seen = record { roots = roots; seen = seen }

-- the session learns a list that was told: the next look begins with it too
abbrev pub Learns : List RootEvent → Result (Option (List RootEvent)) CrawlFault
    → List RootEvent → Type 0
Learns before (Ok (Some told)) after = IsPrefix before after × IsPrefix told after
Learns before (Ok None) after = after ≡ before
Learns before (Err fault) after = after ≡ before

-- the session asks the roots something, they give this answer, and it learns the list that they
-- told
abbrev pub Hears : KnownData → RootRequestData → Result (Option (List RootEvent)) CrawlFault
    → KnownData → Type 0
Hears before request told after =
    RootsGive before.roots request told after.roots × Learns before.seen told after.seen

-- the session looks at a root, in a list that was published, and that begins with all that it knew;
-- or the look was refused, and there is no root to look at
abbrev pub Looks : Basis → List ℕ → KnownData → Option AtData → KnownData → Type 0
Looks basis root before at after =
    (after.roots ≡ before.roots)
    × ((IsPrefix before.seen after.seen × ShowsAt basis.run root after.seen at
    × basis.published after.seen)
    ⊎ ((after.seen ≡ before.seen) × (at ≡ None) × basis.refused before.seen))

-- the roots told this of a root: the session looks at it, unless they refused
abbrev pub LooksAfter : Basis → List ℕ → Result (Option (List RootEvent)) CrawlFault → KnownData
    → ReadyData → KnownData → Type 0
LooksAfter basis root (Ok told) before ready after =
    (at : Option AtData) × Looks basis root before at after × (ready ≡ Ok at)
LooksAfter basis root (Err fault) before ready after = (ready ≡ Err fault) × (after ≡ before)

-- the session first asks the roots for a root, and then looks at it
abbrev pub HearsFirst : Basis → List ℕ → RootRequestData → KnownData → ReadyData → KnownData
    → Type 0
HearsFirst basis root request before ready after =
    (told : Result (Option (List RootEvent)) CrawlFault) × (heard : KnownData)
    × Hears before request told heard × LooksAfter basis root told heard ready after

-- a root that has ended, as it is looked at: its number
abbrev pub ended : InstanceData → AtData
ended instance = record { instance = instance; view = None }

-- the number of a root whose end was told, or why the end was refused
abbrev pub ended_by : AtData → Result (List RootEvent) CrawlFault → ReadyData
ended_by at (Ok told) = Ok (Some (ended at.instance))
ended_by at (Err fault) = Err fault

-- the session retires a root that it looked at; it retires none if it looked at none
abbrev pub Unwatches : Option AtData → KnownData → ReadyData → KnownData → Type 0
Unwatches None before ready after = (ready ≡ Ok None) × (after ≡ before)
Unwatches (Some at) before ready after =
    (told : Result (List RootEvent) CrawlFault)
    × Hears before (ending (at.instance).root) (tells told) after × (ready ≡ ended_by at told)

-- the session does what an ask needs
abbrev pub Readies : Basis → NeedData → KnownData → ReadyData → KnownData → Type 0
Readies basis none before ready after = (ready ≡ Ok None) × (after ≡ before)
Readies basis (look root) before ready after =
    (at : Option AtData) × Looks basis root before at after × (ready ≡ Ok at)
Readies basis (crawl root) before ready after =
    HearsFirst basis root (passing root) before ready after
Readies basis (watch root) before ready after =
    HearsFirst basis root (showing root) before ready after
Readies basis (unwatch root) before ready after =
    (at : Option AtData) × (seen : KnownData) × Looks basis root before at seen
    × Unwatches at seen ready after
