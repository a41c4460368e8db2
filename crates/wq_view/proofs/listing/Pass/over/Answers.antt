-- The patch of the pass fits each view.
use Rattle.std.proofs.Common.{◌≡◌, ℤ, ◌≤◌, List, [], ◌∷◌, length, sym, ap, subst, ◌∙◌, arith, w64}
use mir.Val.{to_z, of_z, SFits}
use Rattle.std.proofs.lemmas.Int.{to_z-of_z}
use Rattle.wq_view.specs.Change.{ChangeData, MakePass, pass_by}
use Rattle.wq_view.specs.Limit.{max_records}
use Rattle.wq_view.specs.Listing.{PassData}
use Rattle.wq_view.proofs.Whole.{whole_makes, whole_pass}
use Rattle.wq_view.proofs.listing.Pass.over.Goals as goal

pub of-requires-clause-patches : goal.of-requires-clause-patches
of-requires-clause-patches c =
    let few : length c.args.view.now.records ≤ max_records = omega (arith, c.len.ensures.value, c.len.ensures.bound) in
    subst (MakePass c.args.view.now.records) (sym c.from_ref.ensures.value) (whole_makes c.args.view.now.records c.self.inside.whole c.self.invariant.1 few c.self.inside.second c.self.invariant.0)

pub returns : goal.returns
returns c =
    let records = c.args.view.now.records in
    let few : length records ≤ max_records = omega (arith, c.len.ensures.value, c.len.ensures.bound) in
    let fits : SFits w64 c.second-second.result = record { sfits = c.second-second.type_inv } in
    let second = to_z w64 (of_z w64 c.second-second.result) in
    let same = to_z-of_z w64 c.second-second.result fits ∙ c.second-second.ensures.value ∙ ap (λ (p : PassData). p.second) (sym c.self.view_is) in
    c.of.ensures
    ∙ ap (λ (p : PassData). record { base = c.args.view.now; pass = p }) (ap (λ ps. pass_by records ps second) c.from_ref.ensures.value ∙ whole_pass records c.self.inside.whole c.self.invariant.1 few c.self.inside.second second c.self.invariant.0 same ∙ c.self.view_is)
