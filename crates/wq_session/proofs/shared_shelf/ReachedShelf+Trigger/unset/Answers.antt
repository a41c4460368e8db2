-- The shelf without a cursor is reached.
use Rattle.std.proofs.Common.{sym, subst}
use Rattle.wq_session.specs.Shelved.{shelf_data}
use Rattle.wq_session.specs.Reached.{IsReached}
use Rattle.wq_session.proofs.Reaching.{unset_reached}
use Rattle.wq_session.proofs.shared_shelf.ReachedShelf+Trigger.unset.Goals as goal

pub invariant_of-self : goal.invariant_of-self
invariant_of-self c = subst IsReached (sym c.on.ensures.unset) (unset_reached _ _ (shelf_data c.self.inside.shelf) c.self.invariant)
