-- the last view and the recent directories stay the same, what is noted was listed, and so many steps
-- led here
use Rattle.std.proofs.Common.{◌≡◌, ℕ}
use Rattle.wq_walk.specs.State.{walk_of}
use Rattle.wq_walk.specs.Found.{found_rows}
use Rattle.wq_walk.specs.Glance.{AreGlanceSteps, ListAll}
use Rattle.wq_walk.proofs.glance.Glance.run.Given as goal

abbrev pub invariant-loop : goal.invariant-loop
invariant-loop g l =
    (l.self.last.now ≡ l.fn.self.last.now)
    × (l.self.recent.now ≡ l.fn.self.recent.now)
    × (l.self.walk.path.root_len ≡ l.fn.self.walk.path.root_len)
    × ListAll l.self.last.now.records (found_rows l.self.walk.rows.found) l.self.unchanged.items
    × ((steps : ℕ) × AreGlanceSteps (g.D.Disk.says l.fn.disk) (g.D.Disk.has l.fn.disk) l.fn.self.last.now.records l.fn.self.recent.now l.fn.self.walk.path.root_len steps
    (walk_of l.fn.self.walk.above.items l.fn.here l.fn.self.walk.rows) (walk_of l.self.walk.above.items l.here l.self.walk.rows))
