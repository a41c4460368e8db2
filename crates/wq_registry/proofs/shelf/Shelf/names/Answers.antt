use Rattle.std.proofs.Common.{ap, sym, ◌∙◌}
use Rattle.wq_registry.specs.ByName.{names}
use Rattle.wq_registry.proofs.Entries.{names-unshared}
use Rattle.wq_registry.proofs.shelf.Shelf.names.Goals as goal

pub returns : goal.returns
returns g c = c.names.ensures ∙ sym (names-unshared c.self.inside.programs) ∙ ap (λ s. names s.programs) c.self.view_is
