use Rattle.wq_registry.proofs.Places.{changed_well, left_well}
use Rattle.wq_registry.proofs.shelf.Shelf.add_trigger.Goals as goal

pub returns-clause-added : goal.returns-clause-added
returns-clause-added g c =
    changed_well c.args.root _ c.args.self.now c.in-Some.root.now _ c.add_trigger.result c.in-Some.ensures.value c.add_trigger.ensures.added

pub returns-clause-kept : goal.returns-clause-kept
returns-clause-kept g c =
    left_well c.args.root (λ r. r) c.args.self.now c.in-Some.root.now _ c.add_trigger.result c.in-Some.ensures.value c.add_trigger.ensures.kept
