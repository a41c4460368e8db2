-- the glance ended, and the records that were left changed no row
use Rattle.std.proofs.Common.{ap, map}
use Rattle.wq_disk.specs.Directory.{data_of}
use Rattle.wq_walk.specs.Found.{found_rows}
use Rattle.wq_walk.proofs.GlanceSeen.{glance_of}
use Rattle.wq_walk.proofs.glance.rows_seen.Goals as goal

pub returns-in-Some-clause-glance : goal.returns-in-Some-clause-glance
returns-in-Some-clause-glance g c =
    let begun = c.in_ok-walk.ensures in
    let read = begun.read in
    glance_of (g.D.Disk.says c.args.disk.now) (g.D.Disk.has c.args.disk.now) c.args.last.now.records c.args.recent.now c.args.root.now read.0 c.in_ok-walk.walk.path.root_len
    (map data_of c.in_ok-walk.walk.above.items) (data_of c.in_ok-walk.top) (found_rows c.in_ok-walk.walk.rows.found) (found_rows c.run.new.self.walk.rows.found) (found_rows c.finish.new.self.found)
    read.1 begun.root (ap (map data_of) begun.above) read.2 begun.rows c.in_ok-finish-in-Some.ensures.same c.in_ok-run.ensures.ends
