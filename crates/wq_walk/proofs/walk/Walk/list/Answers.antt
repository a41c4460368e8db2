-- the walk passes over a file if the disk cannot look at it, or if its path is no text
use Rattle.std.proofs.Common.{inr, Some}
use Rattle.wq_walk.specs.Found.{found_rows}
use Rattle.wq_walk.proofs.Walking.{passed_over, unseen}
use Rattle.wq_walk.proofs.walk.Walk.list.Goals as goal

pub returns-in_default-clause-looked : goal.returns-in_default-clause-looked
returns-in_default-clause-looked g c =
    passed_over (g.D.Disk.says c.args.disk.now) c.args.self.now.path.root_len c.args.self.now.rows.piece.part c.args.self.now.path.bytes (found_rows c.args.self.now.rows.found)
    (inr (inr (unseen (λ stat. g.D.Disk.says c.args.disk.now c.args.self.now.path.bytes (Some stat)) c.in_ok-stat.field-0 c.in_default.is c.in_ok-stat.ensures.told)))
