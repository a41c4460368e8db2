-- Only the root that was found has ended.
use Rattle.std.proofs.Common.{subst}
use Rattle.wq_crawl.specs.Publish.{EndsRoot}
use Rattle.wq_crawl.proofs.Apart.{end_apart}
use Rattle.wq_crawl.proofs.root_publisher.RootPublisher.retire.Goals as goal

pub returns-in-Ok-clause-others : goal.returns-in-Ok-clause-others
returns-in-Ok-clause-others g c =
    end_apart c.args.root.instance.root c.args.self.now.publisher c.retire.new.self
    (subst (λ n. EndsRoot c.args.self.now.publisher n c.retire.new.self) c.number.ensures c.in-Ok.ensures.added)
