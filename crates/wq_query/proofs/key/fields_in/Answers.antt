-- Each name is a field's, or the first that is no field's refuses the list.
use Rattle.std.proofs.Common.{◌≡◌, ◌+◌, [], drop, refl, sym, ap, ◌∙◌}
use Rattle.std.proofs.Math.ListN.{drop_of_length-le}
use Rattle.serde_json.specs.View.{items_view}
use Rattle.wq_query.specs.Reading.{field_of, fields_in}
use Rattle.wq_base.proofs.Fault.{before, before-end}
use Rattle.wq_query.proofs.Names.{read_more, read_none}
use Rattle.wq_query.proofs.key.fields_in.Goals as goal

pub returns-in-None : goal.returns-in-None
returns-in-None c = read_none field_of fields_in (λ d ds. refl) c.args.names.now c.loop-name.name-index c.name-item.result c.loop-name.fields.items _ c.loop-name-test.true c.name-item.is (sym c.in-None.ensures) c.loop-name.invariant

pub loop-name-preserved : goal.loop-name-preserved
loop-name-preserved c =
    let more = read_more field_of fields_in (λ d ds. refl) c.args.names.now c.loop-name.name-index c.name-item.result c.loop-name.fields.items c.in-Some.field _ c.loop-name-test.true c.name-item.is (sym c.in-Some.ensures) c.loop-name.invariant in
    ap (λ fs. before fs (fields_in (items_view (drop (c.loop-name.name-index + 1) c.args.names.now)))) c.in_ok-push-in-Some.ensures.items ∙ more

pub returns : goal.returns
returns c =
    let none : drop c.loop-name.name-index c.args.names.now ≡ [] = drop_of_length-le c.args.names.now c.loop-name-test.false in
    sym c.loop-name.invariant ∙ ap (λ left. before c.loop-name.fields.items (fields_in (items_view left))) none ∙ before-end c.loop-name.fields.items
