use Rattle.std.proofs.Common.{ap, ◌∙◌}
use Rattle.std.specs.List.{slice_get}
use Rattle.wq_registry.specs.ByName.{values, put_at}
use Rattle.wq_registry.proofs.Entries.{written, same_values, same_loan}
use Rattle.wq_registry.proofs.named.ByName.value_mut.Goals as goal

pub returns : goal.returns
returns g c = (
  same_loan _ (λ w. written c.args.k w c.self.inside.entries.entries ∙ ap (put_at c.args.k w) c.self.view_is) c.self.view_is,
  record {
    writes_back = tt;
    value = c.get_index_mut.ensures.value ∙ ap (λ xs. slice_get xs c.args.k) (same_values c.self.inside.entries.entries) ∙ ap (λ xs. slice_get (values xs) c.args.k) c.self.view_is;
  },
)
