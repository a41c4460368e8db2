-- the law of the answers of this disk
use Rattle.wq_walk.proofs.Accounts.{rows_are_of_paths}
use Rattle.wq_walk.proofs.law.rows_are_of_paths.Goals as goal

pub returns : goal.returns
returns g c = rows_are_of_paths (g.D.Disk.says c.args.disk.now) (g.D.Disk.has c.args.disk.now)
