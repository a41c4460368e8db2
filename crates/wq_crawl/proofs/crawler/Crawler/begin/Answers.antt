-- The root was listed, and started with the pass of the listing.
use Rattle.std.proofs.Common.{◌∙◌}
use Rattle.wq_crawl.proofs.Crawling.{began}
use Rattle.wq_crawl.proofs.crawler.Crawler.begin.Goals as goal

pub returns : goal.returns
returns g c =
    began c.args.root.now c.args.self.now c.list.new.self c.start.new.self c.in_ok-pass.pass c.start.result c.list.ensures.kept c.in_ok-pass.ensures.listed
    c.start.ensures.listed c.start.ensures.clock c.start.ensures.started (c.start.ensures.whole ∙ c.in_ok-pass.ensures.whole)
