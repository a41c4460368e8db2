-- A trigger is put under its name, with the meaning of all.
use Rattle.std.proofs.Common.{ap, subst, sym, ◌∙◌, is_none}
use Rattle.std.proofs.lemmas.Result.{on_ok_weaker, on_err_weaker}
use Rattle.wq_registry.specs.Refusal.{Refuses}
use Rattle.wq_registry.specs.Root.{numbered}
use Rattle.wq_session.proofs.Shelves.{no_trigger_place_now, trigger_added_now}
use Rattle.wq_session.specs.Shelved.{shelf_data}
use Rattle.wq_session.proofs.command.trigger.add_trigger.Goals as goal

pub returns-clause-added : goal.returns-clause-added
returns-clause-added c =
    on_ok_weaker c.add_trigger.result (λ is. ap shelf_data is ∙ sym (trigger_added_now c.args.root c.args.name.now c.args.trigger c.args.shelf.now))
    c.add_trigger.ensures.added

pub returns-clause-kept : goal.returns-clause-kept
returns-clause-kept c = on_err_weaker c.add_trigger.result (λ is. ap shelf_data is) c.add_trigger.ensures.kept

pub returns-clause-refused : goal.returns-clause-refused
returns-clause-refused c =
    subst (λ b. Refuses (is_none (numbered c.args.root c.args.shelf.now.roots)) b c.add_trigger.result)
    (sym (no_trigger_place_now c.args.root c.args.name.now c.args.shelf.now)) c.add_trigger.ensures.refused
