-- by the start and its first pass
use Rattle.wq_live.proofs.FirstPasses.{after_start}
use Rattle.wq_live.proofs.table.RootTable.with_start.Goals as goal

pub returns-clause-started : goal.returns-clause-started
returns-clause-started c events is =
    let it = c.in_ok-with_root.ensures in rw it.2 (after_start events c.args.self.now is c.args.text.now c.args.pass.now it.0 it.1)
