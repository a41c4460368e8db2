use Rattle.std.proofs.Common.{ap, ◌∙◌}
use Rattle.wq_registry.specs.Entry.{by_bytes}
use Rattle.wq_registry.specs.ByName.{under, without}
use Rattle.wq_registry.proofs.Entries.{found, removed}
use Rattle.wq_registry.proofs.named.ByName.remove.Goals as goal

pub returns-clause-value : goal.returns-clause-value
returns-clause-value g c = c.shift_remove.ensures.value ∙ found c.args.name.now _ ∙ ap (under c.args.name.now) c.self.view_is

pub returns-clause-removed : goal.returns-clause-removed
returns-clause-removed g c = ap by_bytes c.shift_remove.ensures.entries ∙ removed c.args.name.now _ ∙ ap (without c.args.name.now) c.self.view_is
