use Rattle.std.proofs.Common.{ap, sym, ◌∙◌, is_some}
use Rattle.wq_registry.specs.Entry.{unshared}
use Rattle.wq_registry.specs.ByName.{under}
use Rattle.wq_registry.specs.Shelf.{without_program}
use Rattle.wq_registry.proofs.Entries.{without-unshared, there-unshared}
use Rattle.wq_registry.proofs.shelf.Shelf.remove.Goals as goal

pub returns-clause-there : goal.returns-clause-there
returns-clause-there g c =
    c.is_some.ensures ∙ ap is_some c.remove.ensures.value ∙ sym (there-unshared c.args.name.now c.self.inside.programs)
    ∙ ap (λ s. is_some (under c.args.name.now s.programs)) c.self.view_is

pub returns-clause-removed : goal.returns-clause-removed
returns-clause-removed g c =
    let inside = c.self.inside in
    ap (λ xs. record { programs = xs; roots = inside.roots.items; sockname = inside.sockname.bytes.items })
    (ap unshared c.remove.ensures.removed ∙ without-unshared c.args.name.now inside.programs)
    ∙ ap (without_program c.args.name.now) c.self.view_is
