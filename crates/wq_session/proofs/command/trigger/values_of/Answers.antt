-- One value more, up to the last.
use Rattle.std.proofs.Common.{rules, ◌≡◌, ◌+◌, false, length, refl, Some, slice_get, subst, sym, take}
use Rattle.std.proofs.lemmas.List.{take_all}
use Rattle.std.proofs.lemmas.Option.{slice_get_read}
use Rattle.serde_json.specs.View.{view as data_of}
use Rattle.serde_json.specs.Written.{has_float}
use Rattle.wq_follow.specs.Kept.{data_in}
use Rattle.wq_session.proofs.Triggers.{one_value}
use Rattle.wq_session.specs.Objects.{AreObjects}
use Rattle.wq_session.specs.Work.{objects_in}
use Rattle.wq_session.proofs.command.trigger.values_of.Goals as goal

pub loop-object-preserved : goal.loop-object-preserved
loop-object-preserved c =
    let there : slice_get c.args.objects.now c.loop-object.object-index ≡ Some c.object-item.result =
    slice_get_read c.args.objects.now (length c.args.objects.now) c.loop-object.object-index c.object-item.result refl c.loop-object-test.true c.object-item.is in
    let same : data_of c.in_ok-read.field-0 ≡ data_in (c.object-item.result).value = search rules in
    let plain : has_float (data_of c.in_ok-read.field-0) ≡ false = search rules in
    subst (AreObjects (objects_in (take (c.loop-object.object-index + 1) c.args.objects.now))) (sym c.in_ok-push.ensures.items)
    (one_value c.args.objects.now c.loop-object.object-index c.object-item.result c.loop-object.values.items c.in_ok-read.field-0
    c.loop-object.invariant there same plain)

pub returns : goal.returns
returns c =
    subst (λ objects. AreObjects (objects_in objects) c.loop-object.values.items)
    (take_all c.loop-object.object-index c.args.objects.now c.loop-object-test.false) c.loop-object.invariant
