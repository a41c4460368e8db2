use Rattle.std.proofs.Common.{ap, sym, ◌∙◌}
use Rattle.wq_registry.specs.Root.{without_trigger}
use Rattle.wq_registry.specs.Shelf.{root_changed}
use Rattle.wq_registry.proofs.Places.{shelf_changed, shelf_unchanged}
use Rattle.wq_registry.proofs.shelf.Shelf.remove_trigger.Goals as goal

pub returns-in_err-root-clause-removed : goal.returns-in_err-root-clause-removed
returns-in_err-root-clause-removed g c =
    sym (shelf_unchanged c.args.root (without_trigger c.args.name.now) c.args.self.now (sym c.in_err-root.ensures.value))

pub returns-clause-removed : goal.returns-clause-removed
returns-clause-removed g c =
    ap (λ r. root_changed c.args.root (λ _. r) c.args.self.now) c.remove_trigger.ensures.removed
    ∙ shelf_changed c.args.root (without_trigger c.args.name.now) c.args.self.now c.in_ok-root.root.now (sym c.in_ok-root.ensures.value)
