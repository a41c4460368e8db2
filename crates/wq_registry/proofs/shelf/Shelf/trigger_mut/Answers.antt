use Rattle.std.proofs.Common.{ap, sym, ◌∙◌, slice_get}
use Rattle.wq_registry.specs.ByName.{values}
use Rattle.wq_registry.specs.Root.{triggers_in, with_trigger_at}
use Rattle.wq_registry.proofs.Entries.{same_loan}
use Rattle.wq_registry.proofs.Places.{shelf_changed, shelf_same}
use Rattle.wq_registry.proofs.shelf.Shelf.trigger_mut.Goals as goal

pub returns : goal.returns
returns g c =
    let is = sym c.in_ok-root.ensures.value in (
      same_loan _ (λ w. shelf_changed c.args.root (with_trigger_at c.args.k w) c.args.self.now c.in_ok-root.root.now is) (shelf_same c.args.root c.args.self.now c.in_ok-root.root.now is),
      record {
        writes_back = tt;
        value = c.trigger_mut.ensures.value ∙ ap (λ r. slice_get (values (triggers_in r)) c.args.k) (sym is);
      },
    )
