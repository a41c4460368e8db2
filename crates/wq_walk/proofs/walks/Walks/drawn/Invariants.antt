-- the rows so far are those of walks of their pieces
use Rattle.wq_walk.specs.Listed.{AreOfPieces}
use Rattle.wq_walk.proofs.walks.Walks.drawn.Given as goal

abbrev pub invariant-loop : goal.invariant-loop
invariant-loop g l =
    AreOfPieces (g.D.Disk.says l.self.disk.now) (g.D.Disk.has l.self.disk.now) l.self.root.now
    l.self.pieces.now l.list.items
