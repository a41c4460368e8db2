-- A cursor is used, with the meaning of the triggers.
use Rattle.std.proofs.Common.{ap, subst, sym, ◌∙◌, is_none}
use Rattle.std.proofs.lemmas.Result.{on_ok_weaker, on_err_weaker}
use Rattle.wq_registry.specs.ByName.{has_no_place, under}
use Rattle.wq_registry.specs.Limit.{max_cursors}
use Rattle.wq_registry.specs.Refusal.{Refuses}
use Rattle.wq_registry.specs.Root.{numbered}
use Rattle.wq_session.proofs.Shelves.{cursors_now, if_ok_with, used_now}
use Rattle.wq_session.specs.Shelved.{shelf_data}
use Rattle.wq_session.proofs.command.query.swap_cursor.Goals as goal

pub returns-clause-old : goal.returns-clause-old
returns-clause-old c =
    if_ok_with c.swap_cursor.result (λ old is. is ∙ ap (under c.args.name.now) (sym (cursors_now c.args.root c.args.shelf.now))) c.swap_cursor.ensures.old

pub returns-clause-used : goal.returns-clause-used
returns-clause-used c =
    on_ok_weaker c.swap_cursor.result (λ is. ap shelf_data is ∙ sym (used_now c.args.root c.args.name.now c.args.tick c.args.shelf.now)) c.swap_cursor.ensures.used

pub returns-clause-kept : goal.returns-clause-kept
returns-clause-kept c = on_err_weaker c.swap_cursor.result (λ is. ap shelf_data is) c.swap_cursor.ensures.kept

pub returns-clause-refused : goal.returns-clause-refused
returns-clause-refused c =
    subst (λ xs. Refuses (is_none (numbered c.args.root c.args.shelf.now.roots)) (has_no_place max_cursors c.args.name.now xs) c.swap_cursor.result)
    (sym (cursors_now c.args.root c.args.shelf.now)) c.swap_cursor.ensures.refused
