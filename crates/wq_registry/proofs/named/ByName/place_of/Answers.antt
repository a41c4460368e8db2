use Rattle.std.proofs.Common.{◌≡◌, None, IfSome, IfNone, slice_get, subst}
use Rattle.wq_registry.specs.ByName.{ByName, put, put_at, under, values}
use Rattle.wq_registry.proofs.Entries.{at_place, value_there, nothing_there}
use Rattle.wq_registry.proofs.named.ByName.place_of.Goals as goal

pub returns-clause-place : goal.returns-clause-place
returns-clause-place g c =
    subst (λ (xs : ByName g.row.V.Denot). IfSome c.get_index_of.result (λ k. (v : g.row.V.Denot) → put_at k v xs ≡ put c.args.name.now v xs)) c.self.view_is
    (at_place c.args.name.now c.self.inside.entries.entries c.get_index_of.result c.get_index_of.ensures.index c.get_index_of.ensures.found)

pub returns-clause-value : goal.returns-clause-value
returns-clause-value g c =
    subst (λ (xs : ByName g.row.V.Denot). IfSome c.get_index_of.result (λ k. slice_get (values xs) k ≡ under c.args.name.now xs)) c.self.view_is
    (value_there c.args.name.now c.self.inside.entries.entries c.get_index_of.result c.get_index_of.ensures.value)

pub returns-clause-none : goal.returns-clause-none
returns-clause-none g c =
    subst (λ (xs : ByName g.row.V.Denot). IfNone c.get_index_of.result (under c.args.name.now xs ≡ None)) c.self.view_is
    (nothing_there c.args.name.now c.self.inside.entries.entries c.get_index_of.result c.get_index_of.ensures.found)
