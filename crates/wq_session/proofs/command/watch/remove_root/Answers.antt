-- A root is taken out, with the meaning of the triggers.
use Rattle.std.proofs.Common.{ap, sym, ◌∙◌}
use Rattle.wq_session.proofs.Shelves.{removed_now}
use Rattle.wq_session.specs.Shelved.{shelf_data}
use Rattle.wq_session.proofs.command.watch.remove_root.Goals as goal

pub returns : goal.returns
returns c = ap shelf_data c.remove_root.ensures.removed ∙ sym (removed_now c.args.number c.args.shelf.now)
