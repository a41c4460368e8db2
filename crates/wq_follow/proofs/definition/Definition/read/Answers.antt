-- The part that is kept has no float and is not deep, by the laws.
use Rattle.std.proofs.Common.{◌≡◌, false, codes, rules}
use Rattle.serde_json.specs.Find.{get}
use Rattle.serde_json.specs.View.{view as data_of}
use Rattle.wq_clock.specs.Instance.{instance_data}
use Rattle.wq_query.specs.Query.{asked_of}
use Rattle.wq_follow.specs.Defined.{shape_data}
use Rattle.wq_follow.specs.Definition.{has_bad_length}
use Rattle.wq_follow.proofs.Plain.{plain_read, shallow_read}
use Rattle.wq_follow.proofs.definition.Definition.read.Goals as goal

pub of-requires-clause-floats : goal.of-requires-clause-floats
of-requires-clause-floats c =
    let d = data_of c.args.object.now in
    let fits : has_bad_length (get (codes "name") d) ≡ false = search rules in
    plain_read c.definitions_have_no_float.ensures (instance_data c.args.instance.now) d
    (data_of c.in_ok-object.object) (shape_data c.in_ok-shape.shape) (asked_of c.in-Ok.query)
    fits c.in_ok-shape.ensures c.in_ok-object.ensures c.in-Ok.ensures

pub of-requires-clause-depth : goal.of-requires-clause-depth
of-requires-clause-depth c =
    let d = data_of c.args.object.now in
    let fits : has_bad_length (get (codes "name") d) ≡ false = search rules in
    shallow_read c.definitions_are_shallow.ensures (instance_data c.args.instance.now) d
    (data_of c.in_ok-object.object) (shape_data c.in_ok-shape.shape) (asked_of c.in-Ok.query)
    fits c.in_ok-shape.ensures c.in_ok-object.ensures c.in-Ok.ensures
