use Rattle.std.proofs.Common.{ap, ◌∙◌, map}
use Rattle.std.specs.String.{string_bytes}
use Rattle.wq_registry.specs.ByName.{names}
use Rattle.wq_registry.proofs.Entries.{same_names}
use Rattle.wq_registry.proofs.named.ByName.names.Goals as goal

pub returns : goal.returns
returns g c = ap (map string_bytes) c.keys.ensures.rest ∙ same_names c.self.inside.entries.entries ∙ ap names c.self.view_is
