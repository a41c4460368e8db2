-- The objects of the triggers, with their meaning.
use Rattle.std.proofs.Common.{rules, ◌≡◌, Some, None, ◌∙◌}
use Rattle.wq_registry.specs.Root.{numbered}
use Rattle.wq_session.proofs.Shelves.{if_ok_with}
use Rattle.wq_session.proofs.Triggers.{no_objects, objects_there}
use Rattle.wq_session.proofs.command.trigger.objects_on.Goals as goal

pub returns-in-Some : goal.returns-in-Some
returns-in-Some c =
    let there : numbered c.args.number c.args.shelf.now.roots ≡ Some c.in-Some.root.now = search rules in
    if_ok_with c.objects_of.result (λ objects same. same ∙ objects_there c.args.number c.args.shelf.now c.in-Some.root.now there) c.objects_of.ensures

pub returns-in-None : goal.returns-in-None
returns-in-None c =
    let none : numbered c.args.number c.args.shelf.now.roots ≡ None = search rules in
    no_objects c.args.number c.args.shelf.now c.new.result.items none (search rules)
