-- The query was read at the root that is looked at.
use Rattle.std.proofs.Common.{rules, ◌≡◌, Result, Err, ap, option_map, subst, sym}
use Rattle.wq_query.specs.Reading.{asks as queries}
use Rattle.wq_ask.specs.declared.refusal.Refusal.{Refusal}
use Rattle.wq_session.proofs.Before.{begins_read, object_there, refuses_read}
use Rattle.wq_crawl.specs.At.{at_data}
use Rattle.wq_session.specs.Prepared.{asks_query}
use Rattle.wq_session.specs.Shelved.{shelf_data}
use Rattle.wq_session.specs.Query.{begun_query}
use Rattle.wq_session.specs.Work.{Begins}
use Rattle.wq_session.specs.declared.work.Rest.{Rest}
use Rattle.wq_session.proofs.command.query.begin_query.Goals as goal

pub returns-in_err-query : goal.returns-in_err-query
returns-in_err-query c d said =
    let view = ap (option_map (λ view. view.now)) c.in-Some.is in
    let is : c.from_residual.result ≡ Err c.in_err-query.field-0.0 = search rules in
    subst (λ (r : Result Rest Refusal). Begins (begun_query d (at_data c.args.at) (shelf_data c.args.shelf.now)) (shelf_data c.args.shelf.now) r
    (shelf_data c.args.shelf.now)) (sym is)
    (refuses_read d (shelf_data c.args.shelf.now) (at_data c.args.at) c.in-Some.view.now view c.in_err-query.field-0.0
    (c.in_err-query.ensures.said (queries (at_data c.args.at).instance d)
    (object_there (asks_query d) (at_data c.args.at) c.in-Some.view.now view c.args.object.now said)))

pub returns : goal.returns
returns c d said =
    let view = ap (option_map (λ view. view.now)) c.in-Some.is in
    begins_read d (shelf_data c.args.shelf.now) (at_data c.args.at) c.in-Some.view.now view c.in_ok-query.query
    (c.in_ok-query.ensures.said (queries (at_data c.args.at).instance d)
    (object_there (asks_query d) (at_data c.args.at) c.in-Some.view.now view c.args.object.now said))
    c.tick.result c.tick.ensures.value c.begin_read_query.result (shelf_data c.begin_read_query.new.shelf) c.begin_read_query.ensures
