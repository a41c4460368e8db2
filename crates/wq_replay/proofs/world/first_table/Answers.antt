-- The first start tells no pass.
use Rattle.std.proofs.Common.{[], ap, subst}
use Rattle.wq_live.specs.Table.{TableData, IsTableOf}
use Rattle.wq_replay.proofs.FirstEvents.{first_events}
use Rattle.wq_replay.proofs.world.first_table.Goals as goal

pub returns-in-Ok : goal.returns-in-Ok
returns-in-Ok c =
    subst (λ events. IsTableOf events c.in-Ok.table)
    (first_events c.new-table.result.given c.in_ok-pass.pass (ap (λ (t : TableData). t.given) c.new-table.ensures.empty) c.in_ok-pass.ensures)
    (c.in-Ok.ensures.started [] c.new-table.ensures.history)
