-- The root is not shown, or memory ran out for the client that has gone.
use Rattle.std.proofs.Common.{refl}
use Rattle.wq_crawl.proofs.Sharing.{gone_told, lacking_told}
use Rattle.wq_crawl.proofs.shared_publisher.SharedPublisher.without_crawl.Goals as goal

pub returns-in-Some-clause-given : goal.returns-in-Some-clause-given
returns-in-Some-clause-given g c =
    gone_told _ c.args.root.now c.in-Some.crawl c.in-Some.ensures.none c.in-Some.ensures.answer

pub returns-in-None-clause-given : goal.returns-in-None-clause-given
returns-in-None-clause-given g c = lacking_told c.args.root.now (c.in-None.ensures.shown refl)
