-- the law of the answers of this disk
use Rattle.wq_walk.proofs.GlanceAccounts.{glance_names_are_accounted_for}
use Rattle.wq_walk.proofs.law.glance_names_are_accounted_for.Goals as goal

pub returns : goal.returns
returns g c = glance_names_are_accounted_for (g.D.Disk.says c.args.disk.now) (g.D.Disk.has c.args.disk.now)
