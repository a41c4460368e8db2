-- There is a first row.
use Rattle.std.proofs.Common.{◌≡◌, length, sym, ◌∙◌}
use Rattle.std.proofs.lemmas.Bool.{eqb-false}
use Rattle.wq_reply.proofs.RowTexts.{with-first}
use Rattle.wq_reply.proofs.rows.text_at.Goals as goal

pub returns : goal.returns
returns c =
    let some : length c.args.places.now ≡ 0 → ⊥ = eqb-false _ _ (sym c.is_empty.ensures ∙ c.if-is_empty.false) in
    with-first c.args.rows.now c.args.places.now c.in_ok-list_at.field-0.items c.with_comma.result.items c.requires some c.in_ok-list_at.ensures
    c.with_comma.ensures
