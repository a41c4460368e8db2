-- the step keeps the length
use Rattle.std.proofs.Common.{◌≡◌, ap, sym, ◌∙◌}
use Rattle.wq_live.specs.News.{news_event}
use Rattle.wq_live.proofs.Adding.{adds_moves}
use Rattle.wq_live.proofs.log.Log.add.Goals as goal

pub compare_exchange-found-requires : goal.compare_exchange-found-requires
compare_exchange-found-requires c =
    let h = c.requires in
    let offer = c.plain-offer.ensures in
    let pen = c.no_pen-pen.ensures in
    let book : c.self.inside.seen.book ≡ c.args.head.now.book = ap (λ f. f.book) c.self.view_is ∙ sym (ap (λ w. w.book) h) in (
      ap (λ w. w.tracked) h,
      book,
      pen.0 ∙ book,
      offer.0,
      rw (ap (λ w. w.key) h, pen.1, offer.1, offer.3) (adds_moves c.self.inside.seen.log (news_event c.args.news.now) c.self.inside.count (sym c.self.invariant)),
    )
