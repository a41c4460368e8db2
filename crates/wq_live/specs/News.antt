-- The events that are to be added to the list. No public document defines them.
use Rattle.wq_live.specs.declared.event.RootEvent.{RootEvent}
use Rattle.wq_live.specs.declared.event.RootEvent.TheVariants.{Ended, Passed, Started}
use Rattle.wq_live.specs.declared.news.News.{News}
use Rattle.wq_live.specs.declared.news.News.TheVariants.{End, Pass, Start}

-- the event that this news adds
abbrev pub news_event : News → RootEvent
news_event (Start number text) = Started number text.now
news_event (Pass number change) = Passed number (change.now).pass
news_event (End number) = Ended number
