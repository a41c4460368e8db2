use Rattle.std.proofs.Common.{List, ℕ, ap, ◌∙◌}
use Rattle.std.specs.String.{string_bytes}
use Rattle.wq_registry.specs.Entry.{by_bytes}
use Rattle.wq_registry.specs.ByName.{under, put}
use Rattle.wq_registry.proofs.Entries.{found, inserted}
use Rattle.wq_registry.proofs.named.ByName.push.Goals as goal

pub returns-in-Ok-clause-old : goal.returns-in-Ok-clause-old
returns-in-Ok-clause-old g c =
    c.in-Ok.ensures.old ∙ found (string_bytes c.in_ok-key.key) c.self.inside.entries.entries ∙ ap (λ (name : List ℕ). under name (by_bytes c.self.inside.entries.entries)) c.in_ok-key.ensures.ok
    ∙ ap (under c.args.name.now) c.self.view_is

pub returns-in-Ok-clause-put : goal.returns-in-Ok-clause-put
returns-in-Ok-clause-put g c =
    ap by_bytes c.in-Ok.ensures.entries ∙ inserted c.in_ok-key.key c.args.value c.self.inside.entries.entries ∙ ap (λ (name : List ℕ). put name c.args.value (by_bytes c.self.inside.entries.entries)) c.in_ok-key.ensures.ok
    ∙ ap (put c.args.name.now c.args.value) c.self.view_is
