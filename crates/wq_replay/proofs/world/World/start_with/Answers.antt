-- The world after a start.
use Rattle.std.proofs.Common.{◌+◌, ◌++◌, refl, subst}
use Rattle.wq_live.specs.Event.{start_events}
use Rattle.wq_live.specs.Table.{IsTableOf}
use Rattle.wq_crawl.specs.Publish.{with_start}
use Rattle.wq_replay.specs.World.{at_events, unrefused}
use Rattle.wq_replay.proofs.world.World.start_with.Goals as goal

pub returns-in-Ok : goal.returns-in-Ok
returns-in-Ok c = λ before stands.
    let text = subst (λ text. IsTableOf (before.events ++ start_events (c.args.self.now.views.table.given + 1) text c.args.pass.now) c.in-Ok.table) c.as_str.ensures (c.in-Ok.ensures.started before.events stands.roots) in (
      unrefused (at_events (with_start c.args.root c.args.pass.now before.events) before),
      refl,
      record {
        run = stands.run;
        roots = subst (λ given. IsTableOf (before.events ++ start_events (given + 1) c.args.root c.args.pass.now) c.in-Ok.table) (stands.roots).given text;
        shelf = stands.shelf;
        follows = stands.follows;
        runs = stands.runs;
        refused = refl;
        whole = stands.whole;
      },
    )
