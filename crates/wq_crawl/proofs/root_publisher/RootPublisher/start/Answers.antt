-- Only the root that was started is new.
use Rattle.std.proofs.Common.{◌≡◌, ◌++◌, subst}
use Rattle.wq_live.specs.Event.{start_events}
use Rattle.wq_crawl.proofs.Apart.{start_apart}
use Rattle.wq_crawl.proofs.root_publisher.RootPublisher.start.Goals as goal

pub returns-in-Ok-start-clause-others : goal.returns-in-Ok-start-clause-others
returns-in-Ok-start-clause-others g c =
    start_apart c.args.root.now c.args.pass c.args.self.now.publisher c.start.new.self
    (subst (λ n. c.start.new.self ≡ c.args.self.now.publisher ++ start_events n c.args.root.now c.args.pass) c.in-Ok-start.ensures.number c.in-Ok-start.ensures.added)
