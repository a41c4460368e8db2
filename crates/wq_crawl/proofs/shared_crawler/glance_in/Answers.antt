-- The answer of the lane is the answer of some crawler.
use Rattle.wq_crawl.proofs.Sharing.{glanced_gives}
use Rattle.wq_crawl.proofs.shared_crawler.glance_in.Goals as goal

pub returns : goal.returns
returns g c = glanced_gives c.args.root.now _ _ c.glance.result c.glance.ensures.glanced
