use Rattle.std.proofs.Common.{◌∙◌}
use Rattle.wq_glob.proofs.RowLemmas.{cell_at_step}
use Rattle.wq_glob.proofs.row.cell_at.Goals as goal

pub returns-then-k-steps : goal.returns-then-k-steps
returns-then-k-steps c x text seen_is round =
    let within = c.if-k-steps.true in
    c.next_cell.ensures
    ∙ cell_at_step c.args.rules.now _ _ _ _ x text _ _ _ within seen_is round.own (round.behind within) (round.here within)
