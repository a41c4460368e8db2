-- As many triggers as the root has.
use Rattle.std.proofs.Common.{rules, ◌≡◌, ◌∙◌, Some, None}
use Rattle.wq_registry.specs.Root.{numbered}
use Rattle.wq_session.proofs.Shelves.{count_now}
use Rattle.wq_session.proofs.trigger_round.count_of.Goals as goal

pub returns-in-Some : goal.returns-in-Some
returns-in-Some c =
    let there : numbered c.args.number c.args.shelf.now.roots ≡ Some c.in-Some.root.now = search rules in
    c.trigger_count.ensures ∙ count_now c.args.number c.args.shelf.now (Some c.in-Some.root.now) there

pub returns-in-None : goal.returns-in-None
returns-in-None c =
    let none : numbered c.args.number c.args.shelf.now.roots ≡ None = search rules in
    count_now c.args.number c.args.shelf.now None none
