-- The answer of the lane is the answer of some crawler.
use Rattle.wq_crawl.specs.Answer.{told_list}
use Rattle.wq_crawl.proofs.Sharing.{once_gives}
use Rattle.wq_crawl.proofs.shared_crawler.crawl_in.Goals as goal

pub returns-clause-given : goal.returns-clause-given
returns-clause-given g c = once_gives c.args.root.now _ _ (told_list c.crawl.result) c.crawl.ensures.crawled
