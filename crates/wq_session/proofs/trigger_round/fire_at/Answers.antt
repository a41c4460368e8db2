-- The trigger at the place has its turn.
use Rattle.std.proofs.Common.{rules, ◌≡◌, ◌∙◌, Some, None, ap, sym, option_map, slice_get}
use Rattle.wq_clock.specs.Instance.{instance_data}
use Rattle.wq_follow.specs.Followed.{trigger_data}
use Rattle.wq_registry.specs.ByName.{values}
use Rattle.wq_registry.specs.Shelf.{triggers_of}
use Rattle.wq_session.proofs.Rounds.{found, had_turn}
use Rattle.wq_session.proofs.trigger_round.fire_at.Goals as goal

pub returns-in-Some : goal.returns-in-Some
returns-in-Some g c front t later parts placed =
    let got : slice_get (values (triggers_of c.args.instance.now.root c.args.shelf.now)) c.args.k ≡ Some c.in-Some.trigger.now = search rules in
    had_turn (instance_data c.args.instance.now) c.args.view.now c.args.shelf.now c.args.k (g.L.Launch.shown c.args.launcher.now) (g.L.Launch.shown c.fire.new.launcher)
    (g.L.Launch.failures_of c.args.launcher.now) (g.L.Launch.failures_of c.fire.new.launcher)
    c.in-Some.trigger.now c.fire.new.self got front t later parts placed _ (c.fire.ensures.1) (c.fire.ensures.2) (c.fire.ensures.4)

pub returns-in_default : goal.returns-in_default
returns-in_default g c front t later parts placed =
    let none : slice_get (values (triggers_of c.args.instance.now.root c.args.shelf.now)) c.args.k ≡ None = search rules in
    absurd (cc (ap (option_map trigger_data) (sym none) ∙ found c.args.instance.now.root c.args.shelf.now c.args.k front t later parts placed))
