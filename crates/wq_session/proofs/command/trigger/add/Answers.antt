-- The trigger is put under its name.
use Rattle.std.proofs.Common.{rules, ◌≡◌, false, is_some, option_map}
use Rattle.wq_follow.specs.Defined.{definition_data}
use Rattle.wq_follow.specs.Followed.{trigger_data}
use Rattle.wq_registry.specs.Shelf.{trigger_added}
use Rattle.wq_session.specs.Out.{replies}
use Rattle.wq_ask.specs.Trigger.{trigger_reply}
use Rattle.wq_session.proofs.Triggers.{trigger_put}
use Rattle.wq_session.specs.Shelved.{shelf_data}
use Rattle.wq_session.specs.Trigger.{defined_name, has_no_trigger_place, trigger_called, trigger_in}
use Rattle.wq_session.specs.Work.{says}
use Rattle.wq_session.proofs.command.trigger.add.Goals as goal

pub returns : goal.returns
returns c =
    let d = definition_data c.args.definition in
    let program = option_map (λ _. c.args.program.value) (d.query).program in
    let shelf = shelf_data c.args.shelf.now in
    let name : c.as_str-name.result.now ≡ defined_name d = search rules in
    let place : has_no_trigger_place c.args.number c.as_str-name.result.now shelf ≡ false = search rules in
    let said : says c.in_ok-out.out
    ≡ says (replies (trigger_reply c.as_str-name.result.now (is_some (trigger_called c.args.number c.as_str-name.result.now shelf)))) =
    search rules in
    let made : trigger_data c.new-trigger.result ≡ trigger_in c.args.root c.args.number d program shelf = search rules in
    let added : shelf_data c.put.new.shelf ≡ trigger_added c.args.number c.as_str-name.result.now (trigger_data c.new-trigger.result) shelf =
    search rules in
    trigger_put c.args.root c.args.number d program shelf c.as_str-name.result.now (says c.in_ok-out.out)
    (trigger_data c.new-trigger.result) (shelf_data c.put.new.shelf) name place said made added
