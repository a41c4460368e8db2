-- One trigger after the other has its turn.
use Rattle.std.proofs.Common.{◌≡◌, ◌<◌, length, subst, arith}
use Rattle.wq_clock.specs.Instance.{instance_data}
use Rattle.wq_registry.specs.Shelf.{triggers_of}
use Rattle.wq_session.proofs.Rounds.{all_had, as_many_now, next_had, none_had}
use Rattle.wq_session.specs.Shelved.{shelf_data}
use Rattle.wq_session.proofs.trigger_round.round_ahead.Goals as goal

pub loop-k-init : goal.loop-k-init
loop-k-init g c =
    none_had (instance_data c.args.instance.now) c.args.view.now (shelf_data c.args.shelf.now) (g.L.Launch.shown c.args.launcher.now) (g.L.Launch.failures_of c.args.launcher.now)

pub fire_at-requires-clause-place : goal.fire_at-requires-clause-place
fire_at-requires-clause-place g c =
    let more : c.loop-k.k < length (triggers_of c.args.instance.now.root (shelf_data c.args.shelf.now)) =
    subst (λ n. c.loop-k.k < n) c.count_of-count.ensures c.loop-k-test.true in
    as_many_now (instance_data c.args.instance.now) c.args.view.now (shelf_data c.args.shelf.now) (g.L.Launch.shown c.args.launcher.now) (g.L.Launch.failures_of c.args.launcher.now)
    c.loop-k.k (shelf_data c.loop-k.shelf) (g.L.Launch.shown c.loop-k.launcher) (g.L.Launch.failures_of c.loop-k.launcher)
    c.loop-k.invariant more

pub loop-k-preserved : goal.loop-k-preserved
loop-k-preserved g c =
    let more : c.loop-k.k < length (triggers_of c.args.instance.now.root (shelf_data c.args.shelf.now)) =
    subst (λ n. c.loop-k.k < n) c.count_of-count.ensures c.loop-k-test.true in
    next_had (instance_data c.args.instance.now) c.args.view.now (shelf_data c.args.shelf.now) (g.L.Launch.shown c.args.launcher.now) (g.L.Launch.failures_of c.args.launcher.now)
    c.loop-k.k (shelf_data c.loop-k.shelf) (shelf_data c.fire_at.new.shelf) (g.L.Launch.shown c.loop-k.launcher) (g.L.Launch.shown c.fire_at.new.launcher)
    (g.L.Launch.failures_of c.loop-k.launcher) (g.L.Launch.failures_of c.fire_at.new.launcher) c.loop-k.invariant more c.fire_at.ensures

pub returns : goal.returns
returns g c =
    let all : c.loop-k.k ≡ length (triggers_of c.args.instance.now.root (shelf_data c.args.shelf.now)) =
    omega (arith, c.count_of-count.ensures, c.loop-k.auto.k-end, c.loop-k-test.false) in
    all_had (instance_data c.args.instance.now) c.args.view.now (shelf_data c.args.shelf.now) (g.L.Launch.shown c.args.launcher.now) (g.L.Launch.failures_of c.args.launcher.now)
    c.loop-k.k (shelf_data c.loop-k.shelf) (g.L.Launch.shown c.loop-k.launcher) (g.L.Launch.failures_of c.loop-k.launcher)
    c.loop-k.invariant all
