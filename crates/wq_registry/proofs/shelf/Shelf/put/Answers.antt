use Rattle.std.proofs.Common.{ap, sym, ◌∙◌, is_some}
use Rattle.wq_registry.specs.ByName.{under}
use Rattle.wq_registry.specs.Entry.{unshared}
use Rattle.wq_registry.specs.Shelf.{with_program}
use Rattle.wq_registry.proofs.Entries.{there-unshared, put-unshared}
use Rattle.wq_registry.proofs.shelf.Shelf.put.Goals as goal

pub returns-clause-replaced : goal.returns-clause-replaced
returns-clause-replaced g c =
    c.is_some.ensures ∙ ap is_some c.in_ok-old.ensures.old ∙ sym (there-unshared c.args.name.now c.self.inside.programs)
    ∙ ap (λ s. is_some (under c.args.name.now s.programs)) c.self.view_is

pub returns-clause-added : goal.returns-clause-added
returns-clause-added g c =
    let inside = c.self.inside in
    ap (λ xs. record { programs = xs; roots = inside.roots.items; sockname = inside.sockname.bytes.items })
    (ap unshared c.in_ok-old.ensures.put ∙ put-unshared c.args.name.now c.args.program inside.programs)
    ∙ ap (with_program c.args.name.now c.args.program.value) c.self.view_is
