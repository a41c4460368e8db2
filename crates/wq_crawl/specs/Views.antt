-- The root at which an ask is ready to be answered.
-- From Watchman's documentation of synchronisation (`sync_timeout`), `watch` and `watch-del`; the
-- rest is this server's own.
use Rattle.std.specs.Prelude.{◌≡◌, ◌⊎◌, Bool, true, false, Option, option_map}
use Rattle.std.specs.Prelude.{Result, Ok, Err}
use Rattle.wq_clock.specs.Instance.{instance_data}
use Rattle.wq_crawl.specs.declared.fault.CrawlFault.{CrawlFault}
use Rattle.wq_crawl.specs.declared.fault.CrawlFault.TheVariants.{NoMemory}
use Rattle.wq_crawl.specs.Need.{NeedData, none}
use Rattle.wq_crawl.specs.At.{AtData}
use Rattle.wq_crawl.specs.declared.views.RootAt.{RootAt}

-- the root that is looked at for an ask, if there is one; or why it could not be crawled, opened or
-- retired
abbrev pub ReadyData : Type 0
ReadyData = Result (Option AtData) CrawlFault

-- whether an ask with this need is about a root
abbrev pub is_of_root : NeedData → Bool
is_of_root none = false
is_of_root _ = true

-- the meaning of the code's root that was looked at
abbrev pub root_at_data : RootAt → AtData
root_at_data root = record {
  instance = instance_data root.instance;
  view = option_map (λ view. view.value) root.view;
}

-- the code's result for a need, if the ask is ready so. Memory may also run out for a share of the
-- view of a root that is looked at
abbrev pub SaysReady : NeedData → ReadyData → Result (Option RootAt) CrawlFault → Type 0
SaysReady need ready (Ok root) = ready ≡ Ok (option_map root_at_data root)
SaysReady need ready (Err fault) =
    (ready ≡ Err fault)
    ⊎ ((fault ≡ NoMemory) × (is_of_root need ≡ true) × (at : Option AtData) × (ready ≡ Ok at))
