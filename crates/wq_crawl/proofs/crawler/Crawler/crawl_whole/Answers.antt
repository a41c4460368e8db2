-- The listing is beside the present list, so it can be published.
use Rattle.std.proofs.Common.{subst, sym}
use Rattle.wq_crawl.specs.Crawl.{IsTakable}
use Rattle.wq_crawl.proofs.Publishing.{takable}
use Rattle.wq_crawl.proofs.crawler.Crawler.crawl_whole.Goals as goal

pub published-requires : goal.published-requires
published-requires g c =
    let over = c.in_ok-listed.ensures.listed c.self.inside.publisher c.table.ensures.table in
    record {
      fit = subst (λ n. IsTakable n c.self.inside.publisher c.in_ok-listed.listed.relisted) (sym c.in_ok-listed.ensures.number)
          (takable c.args.number c.args.root.now c.self.inside.publisher c.self.inside.lister c.list_whole.new.self c.in_ok-listed.listed.relisted over);
    }
