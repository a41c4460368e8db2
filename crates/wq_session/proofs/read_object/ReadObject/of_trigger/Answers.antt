-- The query of a definition is the one that its object asks.
use Rattle.std.proofs.Common.{ap, sym, ◌∙◌, Ok}
use Rattle.serde_json.specs.View.{view as data_of}
use Rattle.wq_clock.specs.Instance.{instance_data}
use Rattle.wq_follow.specs.Defined.{definition_data}
use Rattle.wq_query.specs.Reading.{asks}
use Rattle.wq_session.proofs.Before.{definition_asks}
use Rattle.wq_session.proofs.read_object.ReadObject.of_trigger.Goals as goal

pub of-lookup-requires : goal.of-lookup-requires
of-lookup-requires c =
    ap (asks (instance_data c.args.instance.now)) c.object.ensures.object
    ∙ definition_asks (instance_data c.args.instance.now) (data_of c.args.object.now) (definition_data c.in-Ok.definition) c.in-Ok.ensures
    ∙ ap Ok (sym c.query.ensures)
