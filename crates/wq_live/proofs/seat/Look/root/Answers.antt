-- the table's root of the text
use Rattle.std.proofs.Common.{◌∙◌}
use Rattle.wq_live.proofs.Fullness.{number_named, named_shows}
use Rattle.wq_live.proofs.seat.Look.root.Goals as goal

pub returns-clause-number : goal.returns-clause-number
returns-clause-number g c = c.root.ensures.number ∙ number_named c.args.self.now c.table.result.now c.table.ensures.table c.args.text.now

pub returns-clause-view : goal.returns-clause-view
returns-clause-view g c =
    named_shows (λ it. it.0) (λ it. it.1.now) c.args.self.now c.table.result.now c.table.ensures.table c.args.text.now c.root.result c.root.ensures.number c.root.ensures.view
