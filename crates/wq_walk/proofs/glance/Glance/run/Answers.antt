-- a glance that begins, has a next step, and has none
use Rattle.std.proofs.Common.{◌∙◌, ap, map, refl, subst, sym}
use Rattle.wq_view.specs.View.{ViewData}
use Rattle.wq_disk.specs.Directory.{data_of}
use Rattle.wq_walk.specs.State.{walk_of}
use Rattle.wq_walk.specs.Found.{found_rows}
use Rattle.wq_walk.specs.Glance.{ListAll}
use Rattle.wq_walk.proofs.Glancing.{begins, ended, further}
use Rattle.wq_walk.proofs.glance.Glance.run.Goals as goal

pub loop-init : goal.loop-init
loop-init g c = (
  refl,
  refl,
  refl,
  c.requires,
  begins (g.D.Disk.says c.args.disk.now) (g.D.Disk.has c.args.disk.now) c.args.self.now.last.now.records c.args.self.now.recent.now c.args.self.now.walk.path.root_len
      (walk_of c.args.self.now.walk.above.items c.args.here c.args.self.now.walk.rows),
)

pub loop-preserved : goal.loop-preserved
loop-preserved g c = (
  c.in_ok-take.ensures.last ∙ c.loop.invariant.0,
  c.in_ok-take.ensures.recent ∙ c.loop.invariant.1,
  c.in_ok-take.ensures.root ∙ c.loop.invariant.2,
  subst (λ (v : ViewData). ListAll v.records (found_rows c.take.new.self.walk.rows.found) c.take.new.self.unchanged.items) (sym c.in_ok-take.ensures.last) c.in_ok-take.ensures.unchanged,
  further (g.D.Disk.says c.args.disk.now) (g.D.Disk.has c.args.disk.now) c.loop.self.last.now.records c.args.self.now.last.now.records c.loop.self.recent.now c.args.self.now.recent.now c.loop.self.walk.path.root_len c.args.self.now.walk.path.root_len
      (walk_of c.args.self.now.walk.above.items c.args.here c.args.self.now.walk.rows) (walk_of c.loop.self.walk.above.items c.loop.here c.loop.self.walk.rows) (walk_of c.take.new.self.walk.above.items c.take.new.here c.take.new.self.walk.rows)
      (ap (λ (v : ViewData). v.records) c.loop.invariant.0) c.loop.invariant.1 c.loop.invariant.2 c.loop.invariant.4 (c.in_ok-take.ensures.goes c.if-not-branch.false),
)

pub returns-then-not-branch-clause-ends : goal.returns-then-not-branch-clause-ends
returns-then-not-branch-clause-ends g c =
    let end = c.in_ok-take.ensures.ends c.if-not-branch.true in
    ended (g.D.Disk.says c.args.disk.now) (g.D.Disk.has c.args.disk.now) c.args.self.now.last.now.records c.args.self.now.recent.now c.args.self.now.walk.path.root_len
    (walk_of c.args.self.now.walk.above.items c.args.here c.args.self.now.walk.rows) (walk_of c.loop.self.walk.above.items c.loop.here c.loop.self.walk.rows)
    (map data_of c.take.new.self.walk.above.items) (data_of c.take.new.here) (found_rows c.take.new.self.walk.rows.found) c.loop.invariant.4
    (end.0, end.1, ap (map data_of) end.2)
