-- The answer of the publisher is that of some crawler.
use Rattle.wq_crawl.proofs.Sharing.{ended_gives}
use Rattle.wq_crawl.proofs.shared_crawler.SharedCrawler.retire.Goals as goal

pub returns : goal.returns
returns g c = ended_gives c.args.root.instance.root c.retire.ensures.0 c.retire.result c.retire.ensures.1
