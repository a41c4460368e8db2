-- One event more.
use Rattle.std.proofs.Common.{◌≡◌, ◌++◌, ◌∷◌, [], ap, sym, ◌∙◌}
use Rattle.wq_live.specs.News.{news_event}
use Rattle.wq_live.proofs.Adding.{added_next}
use Rattle.wq_live.proofs.log.Log.add_all.Goals as goal

pub loop-event-preserved : goal.loop-event-preserved
loop-event-preserved c = record {
  book = c.add.ensures.same ∙ c.loop-event.invariant.book;
  log = added_next c.args.news.now c.loop-event.event-index c.event-item.result c.loop-event-test.true (sym c.event-item.is) c.args.self.now.log c.loop-event.self.log c.add.new.self.log c.loop-event.invariant.log (c.add.ensures.added c.if-not-add.false);
}
