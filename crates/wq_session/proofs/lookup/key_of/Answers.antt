-- The query has the expression that its object says.
use Rattle.std.proofs.Common.{rules, ◌≡◌, ◌∙◌, Some, ap, sym}
use Rattle.std.specs.Prelude.{codes}
use Rattle.serde_json.specs.Find.{get}
use Rattle.serde_json.specs.View.{view as data_of}
use Rattle.wq_clock.specs.Instance.{instance_data}
use Rattle.wq_query.specs.Query.{asked_of}
use Rattle.wq_query.specs.Reading.{expression_of}
use Rattle.wq_query.proofs.Grammar.{expression_asked}
use Rattle.wq_session.proofs.lookup.key_of.Goals as goal

pub returns : goal.returns
returns c =
    let is : get (codes "expression") (data_of c.args.object.now) ≡ Some (data_of c.in-Some.value.now) = search rules in
    c.in-Ok.ensures (asked_of c.args.query.now).expression
    (ap (expression_of (instance_data c.args.instance.now)) (sym is)
    ∙ expression_asked (instance_data c.args.instance.now) (data_of c.args.object.now) (asked_of c.args.query.now) c.requires)
