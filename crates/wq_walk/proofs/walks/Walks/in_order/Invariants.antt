-- the rows so far are those of walks of the first pieces, and the others are those of their pieces
use Rattle.std.proofs.Common.{◌≡◌, take}
use Rattle.wq_walk.specs.Listed.{AreOfPieces, AreWalks, walked_pieces}
use Rattle.wq_walk.proofs.walks.Walks.in_order.Given as goal

abbrev pub invariant-loop-place : goal.invariant-loop-place
invariant-loop-place g l =
    AreOfPieces (g.D.Disk.says l.self.disk.now) (g.D.Disk.has l.self.disk.now) l.self.root.now
    l.self.pieces.now l.left.items
    × AreWalks (g.D.Disk.says l.self.disk.now) (g.D.Disk.has l.self.disk.now) l.self.root.now
    l.all.items
    × (walked_pieces l.all.items ≡ take l.place l.self.pieces.now)
