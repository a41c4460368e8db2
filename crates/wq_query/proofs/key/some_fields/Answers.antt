-- A list of names that is not empty.
use Rattle.std.proofs.Common.{◌≡◌, ◌==◌, false, length, sym, ap, ◌∙◌}
use Rattle.serde_json.specs.View.{view as data_of}
use Rattle.wq_query.proofs.Keys.{fields_found}
use Rattle.wq_query.proofs.key.some_fields.Goals as goal

pub returns : goal.returns
returns c =
    let names = c.in-Some.names.now.items in
    let some : (length names == 0) ≡ false = ap (λ n. n == 0) (sym c.in-Some.names.now.ok.0) ∙ sym c.is_empty.ensures ∙ c.if-is_empty.false in
    let given = rw c.deref.ensures.value at c.fields_in.ensures in
    fields_found (data_of c.args.value.now) names c.fields_in.result some c.in-Some.ensures given
