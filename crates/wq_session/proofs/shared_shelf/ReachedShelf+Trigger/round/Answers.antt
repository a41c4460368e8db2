-- The shelf after a round is reached, and the round is counted.
use Rattle.std.proofs.Common.{subst, sym}
use Rattle.wq_clock.specs.Instance.{instance_data}
use Rattle.wq_session.specs.Round.{IsCountedRound}
use Rattle.wq_session.specs.Shelved.{shelf_data}
use Rattle.wq_session.proofs.Reaching.{round_reached}
use Rattle.wq_session.proofs.shared_shelf.ReachedShelf+Trigger.round.Goals as goal

pub invariant_of-self : goal.invariant_of-self
invariant_of-self g c = round_reached _ _ (shelf_data c.self.inside.shelf) _ _ _ c.round_ahead.ensures.0 c.self.invariant

pub returns-clause-round : goal.returns-clause-round
returns-clause-round g c =
    subst
    (λ s. IsCountedRound (instance_data c.args.instance.now) c.args.view.now (shelf_data s) (g.L.Launch.shown c.args.launcher.now)
    (g.L.Launch.failures_of c.args.launcher.now) (shelf_data c.round_ahead.new.shelf) (g.L.Launch.shown c.round_ahead.new.launcher)
    (g.L.Launch.failures_of c.round_ahead.new.launcher)) c.self.view_is c.round_ahead.ensures
