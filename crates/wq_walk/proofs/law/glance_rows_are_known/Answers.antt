-- the law of the answers of this disk
use Rattle.wq_walk.proofs.GlanceRows.{glance_rows_are_known}
use Rattle.wq_walk.proofs.law.glance_rows_are_known.Goals as goal

pub returns : goal.returns
returns g c = glance_rows_are_known (g.D.Disk.says c.args.disk.now) (g.D.Disk.has c.args.disk.now)
