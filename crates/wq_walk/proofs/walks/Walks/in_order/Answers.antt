-- the rows of one more piece
use Rattle.std.proofs.Common.{◌≡◌, ◌∷◌, [], ◌++◌, rules}
use Rattle.wq_walk.proofs.Drawn.{one_more}
use Rattle.wq_walk.proofs.walks.Walks.in_order.Goals as goal

pub loop-place-preserved : goal.loop-place-preserved
loop-place-preserved g c =
    let at = c.loop-place in
    let rows = c.in_ok-rows.rows in
    let pushed : c.push.new.self.items ≡ at.all.items ++ (rows ∷ []) = search rules in
    let more =
    one_more (g.D.Disk.says c.args.self.now.disk.now) (g.D.Disk.has c.args.self.now.disk.now)
    c.args.self.now.root.now at.all.items c.push.new.self.items rows c.args.self.now.pieces.now
    at.place pushed c.in_ok-rows.ensures.walked (at.invariant.1, at.invariant.2) in
    (c.rows_at.ensures.left, more.0, more.1)
