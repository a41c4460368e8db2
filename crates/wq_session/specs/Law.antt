-- Laws of answers, each of which follows from the definitions.
-- It is this server's own.
use Rattle.std.specs.Prelude.{◌≡◌, ℕ, true, List, Some}
use Rattle.wq_session.specs.Out.{replies}
use Rattle.wq_ask.specs.Watch.{watch_data}
use Rattle.wq_ask.specs.declared.ask.Ask.TheVariants.{Watch}
use Rattle.wq_session.specs.Begun.{taken_ask}
use Rattle.wq_crawl.specs.At.{AtData}
use Rattle.wq_session.specs.At.{ShelfNow, is_watched}
use Rattle.wq_session.specs.Work.{saying}

-- watching a root again changes nothing, and has the same answer as the first time
abbrev pub WatchingAgainChangesNothing : Type 0
WatchingAgainChangesNothing = (root : List ℕ) (at : AtData) (shelf : ShelfNow)
    → is_watched root at shelf ≡ true
    → taken_ask (Watch root) (Some at) shelf ≡ saying (replies (watch_data root)) shelf
