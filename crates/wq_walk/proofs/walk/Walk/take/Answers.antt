-- the walk looks at a name, or enters a directory
use Rattle.std.proofs.Common.{inl, inr, ap, ◌∙◌, ◌∷◌, [], map}
use Rattle.std.proofs.lemmas.List.{map-append}
use Rattle.wq_disk.specs.Directory.{data_of, entry_at}
use Rattle.wq_walk.specs.Found.{found_rows}
use Rattle.wq_walk.proofs.Walking.{enters, looks}
use Rattle.wq_walk.proofs.walk.Walk.take.Goals as goal

pub returns-in_ok-look-in-Look-clause-goes : goal.returns-in_ok-look-in-Look-clause-goes
returns-in_ok-look-in-Look-clause-goes g c goes =
    inl (looks (g.D.Disk.says c.args.disk.now) c.args.self.now.path.root_len c.args.self.now.rows.piece.part (map data_of c.args.self.now.above.items) (map data_of c.look.new.self.above.items)
    (data_of c.args.here.now) (data_of c.step.new.self) (data_of c.look.new.here) (entry_at c.step.new.self c.in-Look.name) (found_rows c.args.self.now.rows.found) (found_rows c.look.new.self.rows.found)
    c.in-Look.ensures (ap (λ above. map data_of above.items) c.in_ok-look-in-Look.ensures.above) c.in_ok-look-in-Look.ensures.looked)

pub returns-in_ok-enter-in-Enter-clause-goes : goal.returns-in_ok-enter-in-Enter-clause-goes
returns-in_ok-enter-in-Enter-clause-goes g c goes =
    inr (inl (enters (g.D.Disk.has c.args.disk.now) (map data_of c.args.self.now.above.items) (map data_of c.enter.new.self.above.items)
    (data_of c.args.here.now) (data_of c.step.new.self) (data_of c.enter.new.here) (entry_at c.step.new.self c.in-Enter.name) (found_rows c.args.self.now.rows.found) (found_rows c.enter.new.self.rows.found)
    c.in-Enter.ensures (ap (map data_of) c.in_ok-enter-in-Enter.ensures.above ∙ map-append data_of c.args.self.now.above.items (c.step.new.self ∷ []))
    (ap (λ rows. (found_rows rows.found)) c.in_ok-enter-in-Enter.ensures.rows) c.in_ok-enter-in-Enter.ensures.read))
