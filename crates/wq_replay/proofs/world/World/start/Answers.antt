-- A watch that is refused leaves the history of the roots.
use Rattle.std.proofs.Common.{OnOk, refl, sym, ap, subst}
use Rattle.wq_replay.specs.Stands.{Stands, crawl_data}
use Rattle.wq_replay.specs.World.{Starts, WorldData, refusing}
use Rattle.wq_replay.proofs.world.World.start.Goals as goal

pub returns-in-Ok : goal.returns-in-Ok
returns-in-Ok c = λ before stands.
    subst (λ seen. OnOk c.start_with.result ((after : WorldData) × Starts before c.args.root seen after × Stands after c.start_with.new.self))
    (sym (ap crawl_data c.in-Ok.is)) (c.start_with.ensures before stands)

pub returns-in-Err : goal.returns-in-Err
returns-in-Err c = λ before stands. (
  refusing c.args.root c.in-Err.fault before,
  subst (λ seen. Starts before c.args.root seen (refusing c.args.root c.in-Err.fault before)) (sym (ap crawl_data c.in-Err.is)) refl,
  record { run = stands.run; roots = stands.roots; shelf = stands.shelf; follows = stands.follows; runs = stands.runs; refused = refl; whole = stands.whole },
)
