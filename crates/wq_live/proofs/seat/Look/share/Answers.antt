-- the table's share for the text
use Rattle.std.proofs.Common.{◌∙◌}
use Rattle.wq_live.proofs.Fullness.{number_named, named_shows}
use Rattle.wq_live.proofs.seat.Look.share.Goals as goal

pub returns-clause-number : goal.returns-clause-number
returns-clause-number g c = c.in_ok-share.ensures.number ∙ number_named c.args.self.now c.table.result.now c.table.ensures.table c.args.text.now

pub returns-clause-view : goal.returns-clause-view
returns-clause-view g c =
    named_shows (λ it. it.0) (λ it. it.1.value) c.args.self.now c.table.result.now c.table.ensures.table c.args.text.now c.in_ok-share.share c.in_ok-share.ensures.number c.in_ok-share.ensures.view
