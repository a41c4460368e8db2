-- the events added so far
use Rattle.std.proofs.Common.{◌≡◌, ◌++◌, map, take}
use Rattle.wq_live.specs.News.{news_event}
use Rattle.wq_live.proofs.log.Log.add_all.Given as goal

abbrev pub invariant-loop-event : goal.invariant-loop-event
invariant-loop-event l = record {
  book : l.self.book ≡ l.initial.self.book;
  log : l.self.log ≡ l.initial.self.log ++ map news_event (take l.event-index l.news);
}
