-- Nothing has to be done for an empty shelf.
use Rattle.std.proofs.Common.{ap, sym, subst}
use Rattle.wq_session.specs.Shelved.{shelf_data}
use Rattle.wq_session.specs.Reached.{IsReached}
use Rattle.wq_session.proofs.Readying.{blank_reached}
use Rattle.wq_session.proofs.shared_shelf.ReachedShelf+Trigger.new.Goals as goal

pub invariant_of-result : goal.invariant_of-result
invariant_of-result c = subst IsReached (sym (ap shelf_data c.new.ensures)) (blank_reached _)
