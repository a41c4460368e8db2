-- The object was read at the root that is looked at.
use Rattle.std.proofs.Common.{rules, ◌≡◌, Result, Err, ap, option_map, subst, sym, ◌∙◌}
use Rattle.wq_query.specs.Subscribed.{subscribes}
use Rattle.wq_ask.specs.declared.refusal.Refusal.{Refusal}
use Rattle.wq_session.proofs.Before.{begins_subscribed, object_there, refuses_subscribed}
use Rattle.wq_crawl.specs.At.{at_data}
use Rattle.wq_session.specs.Prepared.{asks_subscription}
use Rattle.wq_session.specs.Shelved.{shelf_data}
use Rattle.wq_session.specs.Subscribe.{begun_subscribe}
use Rattle.wq_session.specs.Work.{Begins}
use Rattle.wq_session.specs.declared.work.Rest.{Rest}
use Rattle.wq_session.proofs.command.subscribe.begin_subscribe.Goals as goal

pub returns-in_err-query : goal.returns-in_err-query
returns-in_err-query c d said =
    let view = ap (option_map (λ view. view.now)) c.in-Some.is in
    let is : c.from_residual.result ≡ Err c.in_err-query.field-0.0 = search rules in
    subst (λ (r : Result Rest Refusal). Begins (begun_subscribe c.args.root.now c.args.name.now d (at_data c.args.at) (shelf_data c.args.shelf.now))
    (shelf_data c.args.shelf.now) r (shelf_data c.args.shelf.now)) (sym is)
    (refuses_subscribed c.args.root.now c.args.name.now d (shelf_data c.args.shelf.now) (at_data c.args.at) c.in-Some.field-0.now
    view (sym c.is_name.ensures ∙ c.if-not-is_name.false) c.in_err-query.field-0.0
    (c.in_err-query.ensures.said (subscribes (at_data c.args.at).instance d)
    (object_there (asks_subscription d) (at_data c.args.at) c.in-Some.field-0.now view c.args.object.now said)))

pub returns : goal.returns
returns c d said =
    let view = ap (option_map (λ view. view.now)) c.in-Some.is in
    begins_subscribed c.args.root.now c.args.name.now d (shelf_data c.args.shelf.now) (at_data c.args.at) c.in-Some.field-0.now
    view (sym c.is_name.ensures ∙ c.if-not-is_name.false) c.in_ok-query.query
    (c.in_ok-query.ensures.said (subscribes (at_data c.args.at).instance d)
    (object_there (asks_subscription d) (at_data c.args.at) c.in-Some.field-0.now view c.args.object.now said))
    c.begin_read_subscribe.result c.begin_read_subscribe.ensures
