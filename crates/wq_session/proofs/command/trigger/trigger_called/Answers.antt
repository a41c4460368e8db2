-- The trigger of the name.
use Rattle.std.proofs.Common.{rules, ◌≡◌, ◌∙◌, Some, None, ap, option_map, sym}
use Rattle.wq_follow.specs.Followed.{trigger_data}
use Rattle.wq_registry.specs.Root.{numbered}
use Rattle.wq_registry.proofs.Entries.{seen}
use Rattle.wq_session.proofs.Shelves.{called_now_at}
use Rattle.wq_session.proofs.command.trigger.trigger_called.Goals as goal

pub returns-in_err-root : goal.returns-in_err-root
returns-in_err-root c =
    let none : numbered c.args.root c.args.shelf.now.roots ≡ None = search rules in
    let result : c.from_residual.result ≡ None = search rules in
    ap (option_map (λ t. trigger_data t.now)) result ∙ sym (called_now_at c.args.root c.args.name.now c.args.shelf.now None none)

pub returns : goal.returns
returns c =
    let there : numbered c.args.root c.args.shelf.now.roots ≡ Some c.in_ok-root.field-0.now = search rules in
    seen trigger_data c.trigger.result ∙ ap (option_map trigger_data) c.trigger.ensures
    ∙ sym (called_now_at c.args.root c.args.name.now c.args.shelf.now (Some c.in_ok-root.field-0.now) there)
