-- The root is as it was told, so the listing is one beside the present list.
use Rattle.std.proofs.Common.{◌≡◌, Some, rules, subst}
use Rattle.wq_live.specs.Event.{number_of, passes_over}
use Rattle.wq_crawl.specs.Answer.{list_or_fault}
use Rattle.wq_crawl.specs.Crawl.{CrawledAt, crawler_at}
use Rattle.wq_crawl.proofs.Publishing.{published_now, refused_now, relisted_later, takable_later}
use Rattle.wq_crawl.proofs.root_publisher.RootPublisher.publish.Goals as goal

pub published-requires : goal.published-requires
published-requires g c =
    let same : passes_over c.args.listed.number c.args.self.now.publisher ≡ passes_over c.args.listed.number c.args.told.now = search rules in
    record { fit = takable_later c.args.listed.number c.args.told.now c.args.self.now.publisher c.args.listed.relisted same c.requires.fit }

pub returns-in-Ok-clause-published : goal.returns-in-Ok-clause-published
returns-in-Ok-clause-published g c before after over =
    let text = c.args.root.now in
    let events = c.args.self.now.publisher in
    let later = c.published.new.publisher in
    let number = c.args.listed.number in
    let shown : number_of c.args.root.now c.args.self.now.publisher ≡ Some c.args.listed.number = search rules in
    let same : passes_over c.args.listed.number c.args.self.now.publisher ≡ passes_over c.args.listed.number c.args.told.now = search rules in
    published_now text events later number c.args.listed.raised.count before after shown c.in-Ok.crawl c.in-Ok.ensures.answer
    (subst (λ r. CrawledAt number text (crawler_at events before) (list_or_fault later r) (crawler_at later after)) c.in-Ok.is
    (c.published.ensures.crawled text before after (relisted_later number text c.args.told.now events before after c.args.listed.relisted same over)))

pub returns-in-Err-clause-published : goal.returns-in-Err-clause-published
returns-in-Err-clause-published g c before after over =
    let text = c.args.root.now in
    let events = c.args.self.now.publisher in
    let later = c.published.new.publisher in
    let number = c.args.listed.number in
    let shown : number_of c.args.root.now c.args.self.now.publisher ≡ Some c.args.listed.number = search rules in
    let same : passes_over c.args.listed.number c.args.self.now.publisher ≡ passes_over c.args.listed.number c.args.told.now = search rules in
    refused_now text events later number c.args.listed.raised.count before after shown c.in-Err.fault c.in-Err.ensures.err
    (subst (λ r. CrawledAt number text (crawler_at events before) (list_or_fault later r) (crawler_at later after)) c.in-Err.is
    (c.published.ensures.crawled text before after (relisted_later number text c.args.told.now events before after c.args.listed.relisted same over)))
