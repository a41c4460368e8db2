use Rattle.std.proofs.Common.{inl, refl, sym, ◌∙◌}
use Rattle.wq_registry.proofs.Places.{at_place, no_place, set_place}
use Rattle.wq_registry.proofs.shelf.Shelf.root_mut.Goals as goal

pub returns-in-Some : goal.returns-in-Some
returns-in-Some g c =
    let shelf = c.args.self.now in
    let is = sym c.place_of.ensures ∙ c.in-Some.is in (
      λ j. inl (c.root_at_mut.result.ghost_name, λ w. record { programs = shelf.programs; roots = set_place c.args.number shelf.roots c.in-Some.place w is j; sockname = shelf.sockname }),
      record { writes_back = tt; value = sym c.root_at_mut.ensures.value ∙ sym (at_place c.args.number shelf.roots c.in-Some.place is) },
    )

pub returns-in-None : goal.returns-in-None
returns-in-None g c =
    (refl, record { writes_back = tt; value = sym (no_place c.args.number c.args.self.now.roots (sym c.place_of.ensures ∙ c.in-None.is)) })
