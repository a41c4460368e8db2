-- A cursor is unset, with the meaning of the triggers.
use Rattle.std.proofs.Common.{ap, sym, ◌∙◌}
use Rattle.wq_registry.specs.Shelf.{cursor_unset}
use Rattle.wq_session.proofs.Shelves.{unset_now}
use Rattle.wq_session.specs.Shelved.{shelf_data}
use Rattle.wq_session.proofs.unset.Unset.on.Goals as goal

pub returns-clause-unset : goal.returns-clause-unset
returns-clause-unset c =
    ap shelf_data c.unset_cursor.ensures ∙ sym (unset_now c.args.cursor.root c.as_str.result.now c.args.shelf.now)
    ∙ ap (λ name. cursor_unset c.args.cursor.root name (shelf_data c.args.shelf.now)) c.as_str.ensures
