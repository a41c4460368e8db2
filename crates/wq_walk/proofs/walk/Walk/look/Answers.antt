-- the result at the path of the name
use Rattle.std.proofs.Common.{ap, false, true}
use Rattle.std.specs.Prelude.{is_some}
use Rattle.wq_disk.specs.Directory.{data_of, entry_at, text_of_entries}
use Rattle.wq_walk.specs.Found.{found_rows}
use Rattle.wq_walk.proofs.SameDirectory.{entered}
use Rattle.wq_walk.proofs.Walking.{found_at, path_of}
use Rattle.wq_walk.proofs.walk.Walk.look.Goals as goal

pub returns-in_default-clause-looked : goal.returns-in_default-clause-looked
returns-in_default-clause-looked g c =
    let path = path_of c.set.new.self.bytes c.path.result.now (data_of c.args.here.now).path c.name.result.now (entry_at c.args.here.now c.args.name) c.in_ok-set.ensures.path c.path.ensures c.name.ensures in
    let found = found_at (g.D.Disk.says c.args.disk.now) c.set.new.self.root_len c.args.self.now.path.root_len c.args.self.now.rows.piece.part _ _ (is_some c.in_ok-stat.field-0) false (found_rows c.args.self.now.rows.found) (found_rows c.list.new.self.rows.found)
    c.in_ok-set.ensures.root path (ap is_some c.in_default.is) c.in_ok-stat.ensures.looked in
    (found.0, false, found.1, found.2, c.list.ensures.directory)
