-- The step that comes before an answer: nothing; a look at the view of a root, perhaps after a
-- crawl of it, or after it was opened; or the retirement of a root. From Watchman's documentation
-- of synchronisation (`sync_timeout`), `watch` and `watch-del`.
use Rattle.std.specs.Prelude.{ℕ, List}
use Rattle.wq_crawl.specs.declared.need.Need.{Need}
use Rattle.wq_crawl.specs.declared.need.Need.TheVariants.{Nothing, Look, Crawl, Open, Retire}

-- the step
pub data NeedData : Type 0 where
  -- nothing
  none : NeedData
  -- a look at the current view of a root
  look : (root : List ℕ) → NeedData
  -- a crawl of a root, and then a look at its view
  crawl : (root : List ℕ) → NeedData
  -- listing and showing a root, unless it is shown, and then a look at its view
  watch : (root : List ℕ) → NeedData
  -- a look at a root, which is then no longer shown
  unwatch : (root : List ℕ) → NeedData

-- the need of the code
abbrev pub need_data : Need → NeedData
need_data Nothing = none
need_data (Look root) = look root.now
need_data (Crawl root) = crawl root.now
need_data (Open root) = watch root.now
need_data (Retire root) = unwatch root.now
