-- The object was read at the root that is looked at.
use Rattle.std.proofs.Common.{rules, ◌≡◌, Result, Err, ap, option_map, subst, sym}
use Rattle.wq_ask.specs.declared.refusal.Refusal.{Refusal}
use Rattle.wq_session.proofs.Before.{begins_defined, object_there, refuses_defined}
use Rattle.wq_crawl.specs.At.{at_data}
use Rattle.wq_session.specs.Prepared.{asks_trigger}
use Rattle.wq_session.specs.Shelved.{shelf_data}
use Rattle.wq_session.specs.Trigger.{defined_by, begun_trigger}
use Rattle.wq_session.specs.Work.{Begins}
use Rattle.wq_session.specs.declared.work.Rest.{Rest}
use Rattle.wq_session.proofs.command.trigger.begin_trigger.Goals as goal

pub returns-in_err-definition : goal.returns-in_err-definition
returns-in_err-definition c d said =
    let view = ap (option_map (λ view. view.now)) c.in-Some.is in
    let is : c.from_residual.result ≡ Err c.in_err-definition.field-0.0 = search rules in
    subst (λ (r : Result Rest Refusal). Begins (begun_trigger c.args.root.now d (at_data c.args.at) (shelf_data c.args.shelf.now))
    (shelf_data c.args.shelf.now) r (shelf_data c.args.shelf.now)) (sym is)
    (refuses_defined c.args.root.now d (shelf_data c.args.shelf.now) (at_data c.args.at) c.in-Some.field-0.now view c.in_err-definition.field-0.0
    (c.in_err-definition.ensures.said (defined_by (at_data c.args.at).instance d)
    (object_there (asks_trigger d) (at_data c.args.at) c.in-Some.field-0.now view c.args.object.now said)))

pub returns : goal.returns
returns c d said =
    let view = ap (option_map (λ view. view.now)) c.in-Some.is in
    begins_defined c.args.root.now d (shelf_data c.args.shelf.now) (at_data c.args.at) c.in-Some.field-0.now view c.in_ok-definition.definition
    (c.in_ok-definition.ensures.said (defined_by (at_data c.args.at).instance d)
    (object_there (asks_trigger d) (at_data c.args.at) c.in-Some.field-0.now view c.args.object.now said))
    c.begin_read_trigger.result (shelf_data c.begin_read_trigger.new.shelf) c.begin_read_trigger.ensures
