-- The list without its last byte, a bracket.
use Rattle.std.proofs.Common.{◌-◌, ap, take, ◌∙◌}
use Rattle.wq_reply.specs.Rows.{data_at, opened}
use Rattle.wq_reply.proofs.RowTexts.{list-opened, popped}
use Rattle.wq_reply.proofs.long.opened_at.Goals as goal

pub returns : goal.returns
returns c =
    let rows = data_at c.args.rows.now c.args.places.now in
    c.pop.ensures.rest ∙ ap (λ n. take (n - 1) c.in_ok-list.list.items) c.in_ok-list.list.ok.0
    ∙ popped c.in_ok-list.list.items (opened rows) 93 (c.in_ok-list.ensures ∙ list-opened rows)
