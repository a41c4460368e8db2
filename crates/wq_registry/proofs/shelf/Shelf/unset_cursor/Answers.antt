use Rattle.std.proofs.Common.{ap, sym, ◌∙◌}
use Rattle.wq_registry.specs.Root.{without_cursor}
use Rattle.wq_registry.specs.Shelf.{root_changed}
use Rattle.wq_registry.proofs.Places.{shelf_changed, shelf_unchanged}
use Rattle.wq_registry.proofs.shelf.Shelf.unset_cursor.Goals as goal

pub returns-in-Some : goal.returns-in-Some
returns-in-Some g c =
    ap (λ r. root_changed c.args.root (λ _. r) c.args.self.now) c.unset_cursor.ensures
    ∙ shelf_changed c.args.root (without_cursor c.args.name.now) c.args.self.now c.in-Some.root.now (sym c.in-Some.ensures.value)

pub returns-in_default : goal.returns-in_default
returns-in_default g c =
    sym (shelf_unchanged c.args.root (without_cursor c.args.name.now) c.args.self.now (sym c.in_default.ensures.value))
