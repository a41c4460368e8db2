use Rattle.std.proofs.Common.{ap, sym, ◌∙◌}
use Rattle.wq_registry.specs.Limit.{max_programs}
use Rattle.wq_registry.specs.ByName.{has_no_place}
use Rattle.wq_registry.proofs.Entries.{no_place-unshared}
use Rattle.wq_registry.proofs.shelf.Shelf.has_no_place.Goals as goal

pub returns : goal.returns
returns g c =
    c.has_no_place.ensures ∙ sym (no_place-unshared c.args.name.now max_programs c.self.inside.programs)
    ∙ ap (λ s. has_no_place max_programs c.args.name.now s.programs) c.self.view_is
