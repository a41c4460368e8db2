-- The world after a watch: of a root that is shown, without room for another root, and with room.
use Rattle.std.proofs.Common.{refl, sym, subst}
use Rattle.wq_crawl.specs.Publish.{IsPlace}
use Rattle.wq_crawl.specs.declared.fault.CrawlFault.TheVariants.{TooManyRoots}
use Rattle.wq_replay.specs.Stands.{Stands, crawl_data}
use Rattle.wq_replay.specs.World.{WatchesAt, refusing, unrefused}
use Rattle.wq_replay.proofs.Worlds.{watches_free}
use Rattle.wq_replay.proofs.world.World.watch.Goals as goal

pub returns-in-Shown : goal.returns-in-Shown
returns-in-Shown c = λ before stands.
    let found = subst (λ text. IsPlace text before.events c.place_for.result) c.as_str.ensures (c.place_for.ensures.place before.events stands.roots) in (
      unrefused before,
      (c.place_for.result, found, subst (λ p. WatchesAt p before c.args.root (crawl_data c.args.seen) (unrefused before)) (sym c.in-Shown.is) refl),
      record { run = stands.run; roots = stands.roots; shelf = stands.shelf; follows = stands.follows; runs = stands.runs; refused = refl; whole = stands.whole },
    )

pub returns-in-Full : goal.returns-in-Full
returns-in-Full c = λ before stands.
    let found = subst (λ text. IsPlace text before.events c.place_for.result) c.as_str.ensures (c.place_for.ensures.place before.events stands.roots) in (
      refusing c.args.root TooManyRoots before,
      (
        c.place_for.result,
        found,
        subst (λ p. WatchesAt p before c.args.root (crawl_data c.args.seen) (refusing c.args.root TooManyRoots before)) (sym c.in-Full.is) refl,
      ),
      record { run = stands.run; roots = stands.roots; shelf = stands.shelf; follows = stands.follows; runs = stands.runs; refused = refl; whole = stands.whole },
    )

pub returns-in-Free : goal.returns-in-Free
returns-in-Free c = λ before stands.
    let found = subst (λ text. IsPlace text before.events c.place_for.result) c.as_str.ensures (c.place_for.ensures.place before.events stands.roots) in
    watches_free before c.args.root (crawl_data c.args.seen) c.place_for.result c.start.result (λ after. Stands after c.start.new.self) found
    c.in-Free.is (c.start.ensures before stands)
