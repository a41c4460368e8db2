use Rattle.wq_registry.proofs.Places.{changed_well, left_well}
use Rattle.wq_registry.proofs.shelf.Shelf.swap_cursor.Goals as goal

pub returns-clause-used : goal.returns-clause-used
returns-clause-used g c =
    changed_well c.args.root _ c.args.self.now c.in-Some.root.now _ c.use_cursor.result c.in-Some.ensures.value c.use_cursor.ensures.used

pub returns-clause-kept : goal.returns-clause-kept
returns-clause-kept g c =
    left_well c.args.root (λ r. r) c.args.self.now c.in-Some.root.now _ c.use_cursor.result c.in-Some.ensures.value c.use_cursor.ensures.kept
