-- What the views of a world do for a need, at the roots that are shown there. A crawl or a watching
-- is a happening of its own: the need only learns whether it was refused.
-- Crawls and watches before answers are from Watchman's documentation of synchronisation
-- (`sync_timeout`), of `watch` and of `watch-del`; the rest is this server's own.
use Rattle.std.specs.Prelude.{◌≡◌, ◌⊎◌, ℕ, Bool, List, [], ◌∷◌, ◌++◌, find, is_some}
use Rattle.std.specs.Prelude.{bytes_eq, if◌then◌else◌, Option, Some, None, option_map}
use Rattle.std.specs.Prelude.{Ok, Err}
use Rattle.wq_clock.specs.Run.{RunData, instance_of}
use Rattle.wq_live.specs.Table.{RootView, TableData, IsTableOf, has_number, number_by_text}
use Rattle.wq_live.specs.Table.{root_by_text}
use Rattle.wq_live.specs.declared.event.RootEvent.{RootEvent}
use Rattle.wq_live.specs.declared.event.RootEvent.TheVariants.{Ended}
use Rattle.wq_crawl.specs.At.{AtData}
use Rattle.wq_crawl.specs.Need.{NeedData, look, crawl as crawl_of, watch as watch_of, unwatch}
use Rattle.wq_crawl.specs.Views.{ReadyData}
use Rattle.wq_crawl.specs.declared.fault.CrawlFault.{CrawlFault}
use Rattle.wq_crawl.specs.declared.fault.CrawlFault.TheVariants.{NoMemory}

-- a crawl or a watching of a root that was refused
pub record RefusedData : Type 0 where
  pub root : List ℕ
  pub fault : CrawlFault

-- whether the root of a text is shown
abbrev pub shows_root : List ℕ → TableData → Bool
shows_root root table = is_some (number_by_text root table)

-- the fault of the last crawl or watching, if that was of this root and was refused
abbrev pub refused_fault : List ℕ → Option RefusedData → Option CrawlFault
refused_fault root None = None
refused_fault root (Some refused) = if bytes_eq refused.root root then Some refused.fault else None

-- the fault of the crawl or the watching that an ask needs, if that was refused. A crawl counts if
-- its root is shown, a watching if it is not
abbrev pub fault_for : NeedData → TableData → Option RefusedData → Option CrawlFault
fault_for (crawl_of root) table refused =
    if shows_root root table then refused_fault root refused else None
fault_for (watch_of root) table refused =
    if shows_root root table then None else refused_fault root refused
fault_for _ table refused = None

-- the number of the root that an ask ends, if it is shown
abbrev pub ending : NeedData → TableData → Option ℕ
ending (unwatch root) table = number_by_text root table
ending _ table = None

-- a root, as a session looks at it
abbrev pub at_root : RunData → RootView → AtData
at_root run root = record { instance = instance_of run root.number; view = Some root.view }

-- a root that has ended, by its number
abbrev pub at_end : RunData → ℕ → AtData
at_end run number = record { instance = instance_of run number; view = None }

-- the root that an ask is answered at, if it ends no root: the root that it names, if that is shown
abbrev pub looked : NeedData → RunData → TableData → Option AtData
looked (look root) run table = option_map (at_root run) (root_by_text root table)
looked (crawl_of root) run table = option_map (at_root run) (root_by_text root table)
looked (watch_of root) run table = option_map (at_root run) (root_by_text root table)
looked _ run table = None

-- the root of a number, as a session looks at it, if it is shown
abbrev pub numbered : ℕ → RunData → TableData → Option AtData
numbered number run table = option_map (at_root run) (find (has_number number) table.roots)

-- a need that ends the root of this number, or none, is met. The ask is ready at the root that it
-- names; or the root ends first, and the ask is ready at its end, unless memory runs out over that
abbrev pub MeetsAt : Option ℕ → NeedData → RunData → TableData → List RootEvent → ReadyData
    → List RootEvent → Type 0
MeetsAt None need run table events ready later =
    (ready ≡ Ok (looked need run table)) × (later ≡ events)
MeetsAt (Some number) need run table events ready later =
    ((ready ≡ Ok (Some (at_end run number))) × (later ≡ events ++ Ended number ∷ []))
    ⊎ ((ready ≡ Err NoMemory) × (later ≡ events))

-- a need is met, unless its crawl or watching was refused
abbrev pub MeetsFor : Option CrawlFault → NeedData → RunData → TableData → List RootEvent
    → ReadyData → List RootEvent → Type 0
MeetsFor (Some fault) need run table events ready later = (ready ≡ Err fault) × (later ≡ events)
MeetsFor None need run table events ready later =
    MeetsAt (ending need table) need run table events ready later

-- the roots of a world do what an ask needs, after a crawl or watching that was refused, or none.
-- Then the ask is ready, and this is the history of the roots
abbrev pub Meets : NeedData → RunData → Option RefusedData → List RootEvent → ReadyData
    → List RootEvent → Type 0
Meets need run refused events ready later = (table : TableData) × IsTableOf events table
    × MeetsFor (fault_for need table refused) need run table events ready later
