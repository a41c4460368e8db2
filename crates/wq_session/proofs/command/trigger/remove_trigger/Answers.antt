-- A trigger is taken out, with the meaning of all.
use Rattle.std.proofs.Common.{ap, sym, ◌∙◌}
use Rattle.wq_session.proofs.Shelves.{trigger_removed_now}
use Rattle.wq_session.specs.Shelved.{shelf_data}
use Rattle.wq_session.proofs.command.trigger.remove_trigger.Goals as goal

pub returns : goal.returns
returns c = ap shelf_data c.remove_trigger.ensures.removed ∙ sym (trigger_removed_now c.args.root c.args.name.now c.args.shelf.now)
