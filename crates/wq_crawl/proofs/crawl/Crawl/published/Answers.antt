-- The listing was published.
use Rattle.std.proofs.Common.{refl, subst}
use Rattle.wq_crawl.specs.Crawl.{CrawledAt, crawler_at}
use Rattle.wq_crawl.specs.Publish.{OthersStay}
use Rattle.wq_crawl.proofs.Publishing.{same_listing}
use Rattle.wq_crawl.proofs.crawl.Crawl.published.Goals as goal

pub returns-in-Ok-clause-crawled : goal.returns-in-Ok-clause-crawled
returns-in-Ok-clause-crawled g c text before after over =
    let it = subst (λ r. CrawledAt c.args.listed.number text (crawler_at c.args.publisher.now before) r (crawler_at c.publish.new.publisher after)) c.in-Ok.is
    (same_listing c.args.listed.number c.parts-relisted.result.1 c.args.listed.relisted c.parts-relisted.result.0 text (crawler_at c.args.publisher.now before) (crawler_at c.args.publisher.now after)
    (crawler_at c.args.publisher.now before) (crawler_at c.publish.new.publisher after) c.publish.result c.parts-relisted.ensures.number c.parts-relisted.ensures.relisted (c.publish.ensures.crawled text before after) over) in
    (refl, it.1, it.2, it.3)

pub returns-in-Err-clause-crawled : goal.returns-in-Err-clause-crawled
returns-in-Err-clause-crawled g c text before after over =
    subst (λ r. CrawledAt c.args.listed.number text (crawler_at c.args.publisher.now before) r (crawler_at c.publish.new.publisher after)) c.in-Err.is
    (same_listing c.args.listed.number c.parts-relisted.result.1 c.args.listed.relisted c.parts-relisted.result.0 text (crawler_at c.args.publisher.now before) (crawler_at c.args.publisher.now after)
    (crawler_at c.args.publisher.now before) (crawler_at c.publish.new.publisher after) c.publish.result c.parts-relisted.ensures.number c.parts-relisted.ensures.relisted (c.publish.ensures.crawled text before after) over)

pub returns-in-Ok-clause-others : goal.returns-in-Ok-clause-others
returns-in-Ok-clause-others g c =
    subst (λ n. OthersStay n c.args.publisher.now c.publish.new.publisher) c.parts-relisted.ensures.number c.publish.ensures.others
