use Rattle.std.proofs.Common.{ap, sym, ◌∙◌, option_map}
use Rattle.wq_registry.specs.ByName.{under}
use Rattle.wq_registry.proofs.Entries.{seen, under-unshared}
use Rattle.wq_registry.proofs.shelf.Shelf.get.Goals as goal

pub returns : goal.returns
returns g c =
    seen _ c.get.result ∙ ap (option_map (λ a. a.value)) c.get.ensures ∙ sym (under-unshared c.args.name.now c.self.inside.programs)
    ∙ ap (λ s. under c.args.name.now s.programs) c.self.view_is
