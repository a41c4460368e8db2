use Rattle.std.proofs.Common.{ap, ◌∙◌}
use Rattle.wq_registry.specs.ByName.{under}
use Rattle.wq_registry.proofs.Entries.{found}
use Rattle.wq_registry.proofs.named.ByName.get.Goals as goal

pub returns : goal.returns
returns g c = c.get.ensures.value ∙ found c.args.name.now _ ∙ ap (under c.args.name.now) c.self.view_is
