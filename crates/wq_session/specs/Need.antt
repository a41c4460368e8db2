-- The need of an ask: the step that comes before its answer.
-- From Watchman's documentation of synchronisation (`sync_timeout`), `watch` and `watch-del`.
use Rattle.std.specs.Prelude.{ℕ, Bool, true, false, List}
use Rattle.wq_crawl.specs.Need.{NeedData, none, look, crawl, watch, unwatch}
use Rattle.wq_ask.specs.declared.ask.Ask.{Ask}
use Rattle.wq_ask.specs.declared.ask.Ask.TheVariants.{OfRoot, Unwatch, Watch}

-- the view of a root, crawled first or not
abbrev pub seen : Bool → List ℕ → NeedData
seen true root = crawl root
seen false root = look root

-- the need of an ask
abbrev pub need_of : Ask → NeedData
need_of (Watch root) = watch root
need_of (Unwatch root) = unwatch root
need_of (OfRoot root first what) = seen first root
need_of _ = none
