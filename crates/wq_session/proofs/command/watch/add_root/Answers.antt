-- A root is added, with the meaning of the triggers.
use Rattle.std.proofs.Common.{ap, subst, sym, ◌∙◌, false}
use Rattle.std.proofs.lemmas.Result.{on_ok_weaker, on_err_weaker}
use Rattle.wq_registry.specs.Refusal.{Refuses}
use Rattle.wq_session.proofs.Shelves.{added_now, no_place_now}
use Rattle.wq_session.specs.Shelved.{shelf_data}
use Rattle.wq_session.proofs.command.watch.add_root.Goals as goal

pub returns-clause-added : goal.returns-clause-added
returns-clause-added c =
    on_ok_weaker c.add_root.result (λ is. ap shelf_data is ∙ sym (added_now c.args.text.now c.args.number c.args.shelf.now)) c.add_root.ensures.added

pub returns-clause-kept : goal.returns-clause-kept
returns-clause-kept c = on_err_weaker c.add_root.result (λ is. ap shelf_data is) c.add_root.ensures.kept

pub returns-clause-refused : goal.returns-clause-refused
returns-clause-refused c =
    subst (λ b. Refuses false b c.add_root.result) (sym (no_place_now c.args.text.now c.args.number c.args.shelf.now)) c.add_root.ensures.refused
