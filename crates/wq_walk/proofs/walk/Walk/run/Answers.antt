-- a walk that begins, has a next step, and has none
use Rattle.std.proofs.Common.{◌∙◌, ap, map, refl}
use Rattle.wq_disk.specs.Directory.{data_of}
use Rattle.wq_walk.specs.State.{walk_of}
use Rattle.wq_walk.specs.declared.piece.Piece.{Piece}
use Rattle.wq_walk.specs.Found.{found_rows}
use Rattle.wq_walk.proofs.Walking.{begins, ended, further}
use Rattle.wq_walk.proofs.walk.Walk.run.Goals as goal

pub loop-init : goal.loop-init
loop-init g c = (
  refl,
  refl,
  begins (g.D.Disk.says c.args.disk.now) (g.D.Disk.has c.args.disk.now) c.args.self.now.path.root_len c.args.self.now.rows.piece.part
      (walk_of c.args.self.now.above.items c.args.here c.args.self.now.rows),
)

pub loop-preserved : goal.loop-preserved
loop-preserved g c = (
  c.in_ok-take.ensures.piece ∙ c.loop.invariant.0,
  c.in_ok-take.ensures.root ∙ c.loop.invariant.1,
  further (g.D.Disk.says c.args.disk.now) (g.D.Disk.has c.args.disk.now) c.loop.self.path.root_len c.args.self.now.path.root_len c.loop.self.rows.piece.part c.args.self.now.rows.piece.part
      (walk_of c.args.self.now.above.items c.args.here c.args.self.now.rows) (walk_of c.loop.self.above.items c.loop.here c.loop.self.rows) (walk_of c.take.new.self.above.items c.take.new.here c.take.new.self.rows)
      c.loop.invariant.1 (ap (λ (p : Piece). p.part) c.loop.invariant.0) c.loop.invariant.2 (c.in_ok-take.ensures.goes c.if-not-branch.false),
)

pub returns-then-not-branch-clause-ends : goal.returns-then-not-branch-clause-ends
returns-then-not-branch-clause-ends g c =
    let end = c.in_ok-take.ensures.ends c.if-not-branch.true in
    ended (g.D.Disk.says c.args.disk.now) (g.D.Disk.has c.args.disk.now) c.args.self.now.path.root_len c.args.self.now.rows.piece.part
    (walk_of c.args.self.now.above.items c.args.here c.args.self.now.rows) (walk_of c.loop.self.above.items c.loop.here c.loop.self.rows)
    (map data_of c.take.new.self.above.items) (data_of c.take.new.here) (found_rows c.take.new.self.rows.found) c.loop.invariant.2
    (end.0, end.1, ap (map data_of) end.2)
