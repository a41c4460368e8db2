-- The root is as it was told, so the listing is one beside the present list.
use Rattle.std.proofs.Common.{◌≡◌, Some, rules, subst, sym}
use Rattle.wq_live.specs.Event.{number_of, passes_over}
use Rattle.wq_crawl.specs.Shared.{PublishesGlance}
use Rattle.wq_crawl.proofs.Publishing.{glance_made, relisted_later}
use Rattle.wq_crawl.proofs.root_publisher.RootPublisher.publish_glance.Goals as goal

pub returns-clause-published : goal.returns-clause-published
returns-clause-published g c before after over =
    let text = c.args.root.now in
    let events = c.args.self.now.publisher in
    let shown : number_of c.args.root.now c.args.self.now.publisher ≡ Some c.args.number = search rules in
    let same : passes_over c.args.number c.args.self.now.publisher ≡ passes_over c.args.number c.args.told.now = search rules in
    subst (λ r. PublishesGlance text before r after) (sym c.made.ensures)
    (glance_made text events c.publish.new.publisher c.args.number 0 before after shown c.publish.result c.publish.ensures.err
    (c.publish.ensures.crawled text before after (relisted_later c.args.number text c.args.told.now events before after c.args.relisted same over)))
