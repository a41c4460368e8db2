-- the piece that is listed stays the same, and so many steps led here
use Rattle.std.proofs.Common.{◌≡◌, ℕ}
use Rattle.wq_walk.specs.State.{walk_of}
use Rattle.wq_walk.specs.Walk.{AreSteps}
use Rattle.wq_walk.proofs.walk.Walk.run.Given as goal

abbrev pub invariant-loop : goal.invariant-loop
invariant-loop g l =
    (l.self.rows.piece ≡ l.fn.self.rows.piece)
    × (l.self.path.root_len ≡ l.fn.self.path.root_len)
    × ((steps : ℕ) × AreSteps (g.D.Disk.says l.fn.disk) (g.D.Disk.has l.fn.disk) l.fn.self.path.root_len l.fn.self.rows.piece.part steps
    (walk_of l.fn.self.above.items l.fn.here l.fn.self.rows) (walk_of l.self.above.items l.here l.self.rows))
