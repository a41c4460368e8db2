-- The last try gives the answer.
use Rattle.std.proofs.Common.{Err, Ok, ap, subst, sym, ◌∙◌}
use Rattle.std.proofs.lemmas.Result.{err_from_is_err_and}
use Rattle.wq_crawl.specs.Answer.{told_list}
use Rattle.wq_crawl.specs.Shared.{CrawledOnce, TriesOnce}
use Rattle.wq_crawl.proofs.Attempts.{next_try, refused_try}
use Rattle.wq_crawl.proofs.lane.Lane.crawl.Goals as goal

pub returns-in_err-crawl-clause-crawled : goal.returns-in_err-crawl-clause-crawled
returns-in_err-crawl-clause-crawled g c =
    let told = err_from_is_err_and c.from_residual.result c.from_residual.ensures.1 in
    subst (λ r. CrawledOnce c.args.root.now c.args.self.now.lister (told_list r) c.try_crawl.new.self.lister) (sym (told.1 ∙ ap Err told.2))
    (refused_try c.args.root.now c.args.self.now.lister c.loop.self.lister c.try_crawl.new.self.lister c.in_err-crawl.field-0.0 c.loop.invariant.tried c.in_err-crawl.ensures.crawled)

pub loop-preserved : goal.loop-preserved
loop-preserved g c = record {
  can = tt;
  finite = tt;
  tried = next_try c.args.root.now c.args.self.now.lister c.loop.self.lister c.try_crawl.new.self.lister c.loop.invariant.tried.0 c.loop.invariant.tried.1
      (subst (λ o. TriesOnce c.args.root.now c.loop.self.lister (Ok o) c.try_crawl.new.self.lister) c.in_default.is c.in_ok-crawl.ensures.crawled);
}
