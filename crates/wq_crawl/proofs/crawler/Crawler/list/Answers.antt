-- The lister's pass, beside the same list.
use Rattle.std.proofs.Common.{MatchResult, subst, ◌∙◌}
use Rattle.wq_crawl.specs.Crawl.{CrawlerData, IsNoPassOver, IsPassOver, crawler_at}
use Rattle.wq_crawl.proofs.crawler.Crawler.list.Goals as goal

pub returns-clause-listed : goal.returns-clause-listed
returns-clause-listed g c =
    let after = crawler_at c.self.inside.publisher c.list.new.self in
    subst (λ (b : CrawlerData). MatchResult c.list.result (λ pass. IsPassOver c.args.root.now b pass after) (λ fault. IsNoPassOver c.args.root.now b fault after)) (c.self.view_is ∙ c.let_go.ensures)
    (c.list.ensures.listed c.self.inside.publisher)
