-- the pieces that the threads drew are put in order
use Rattle.wq_walk.proofs.Drawn.{drawn_ok}
use Rattle.wq_walk.proofs.walks.Walks.all.Goals as goal

pub in_order-requires : goal.in_order-requires
in_order-requires g c =
    drawn_ok (g.D.Disk.says c.args.self.now.disk.now) (g.D.Disk.has c.args.self.now.disk.now)
    (g.D.Disk.fails c.args.self.now.disk.now) c.args.self.now.root.now c.args.self.now.pieces.now
    c.in_ok-walked.walked c.in_ok-walked.ensures
