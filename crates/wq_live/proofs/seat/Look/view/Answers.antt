-- the table's view for the number
use Rattle.wq_live.proofs.Fullness.{shows}
use Rattle.wq_live.proofs.seat.Look.view.Goals as goal

pub returns-clause-shown : goal.returns-clause-shown
returns-clause-shown g c = (shows (λ view. view.now) c.args.self.now c.table.result.now c.table.ensures.table c.args.number c.view.result c.view.ensures.view).0

pub returns-clause-view : goal.returns-clause-view
returns-clause-view g c = (shows (λ view. view.now) c.args.self.now c.table.result.now c.table.ensures.table c.args.number c.view.result c.view.ensures.view).1
