-- The shelf at which an ask was taken is reached.
use Rattle.wq_session.specs.Shelved.{shelf_data}
use Rattle.wq_session.proofs.Reaching.{take_reached}
use Rattle.wq_session.proofs.shared_shelf.ReachedShelf+Trigger.take.Goals as goal

pub invariant_of-self : goal.invariant_of-self
invariant_of-self c = take_reached _ _ (shelf_data c.self.inside.shelf) _ _ c.requires.valid c.take.ensures c.self.invariant
