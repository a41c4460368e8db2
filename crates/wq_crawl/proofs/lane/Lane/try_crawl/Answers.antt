-- An earlier crawl serves.
use Rattle.wq_crawl.proofs.Attempts.{again_then}
use Rattle.wq_crawl.proofs.lane.Lane.try_crawl.Goals as goal

pub returns-in-Some-last-clause-crawled : goal.returns-in-Some-last-clause-crawled
returns-in-Some-last-clause-crawled g c =
    again_then (g.N.Witness.published g.N.Named.book) c.args.root.now c.args.self.now.lister c.in-Some-last.last.number c.again.result
    c.again.ensures.answer c.again.ensures.short
