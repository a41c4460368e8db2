-- the law of the answers of this disk
use Rattle.wq_walk.proofs.Once.{listings_list_once}
use Rattle.wq_walk.proofs.law.listings_list_once.Goals as goal

pub returns : goal.returns
returns g c = listings_list_once (g.D.Disk.says c.args.disk.now) (g.D.Disk.has c.args.disk.now)
