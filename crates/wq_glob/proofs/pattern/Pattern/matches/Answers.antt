use Rattle.std.proofs.Common.{◌≡◌, ◌∙◌, ◌≤◌, ◌+◌, ◌*◌, ℕ, List, length, ap, sym, subst}
use Rattle.wq_glob.specs.Pattern.{fits}
use Rattle.wq_glob.specs.declared.step.Step.{Step}
use Rattle.wq_glob.proofs.CostLemmas.{cost_of}
use Rattle.wq_glob.proofs.PatternLemmas.{matched, steps_count, steps_few, fits_cuts, cuts_fits}
use Rattle.wq_glob.proofs.pattern.Pattern.matches.Goals as goal
use Rattle.wq_glob.proofs.pattern.Pattern.matches.Goals.{After-hit_of}

tested : (c : After-hit_of) → c.hit_of.result.yes ≡ fits c.args.self.now c.args.text.now
tested c = matched c.args.self.now c.args.text.now _ _ c.self.inside.steps.items c.as_slice.result.now _ c.self.view_is c.self.invariant.0 c.as_slice.ensures.value (λ i. (c.type_inv.text i).fits) c.hit_of.ensures.yes

pub hit_of-requires-clause-small : goal.hit_of-requires-clause-small
hit_of-requires-clause-small c =
    let few = steps_few c.args.self.now _ _ c.self.inside.steps.items c.self.view_is c.self.invariant.0 in
    rw c.as_slice.ensures.value few

pub returns-clause-test : goal.returns-clause-test
returns-clause-test c = tested c

pub returns-clause-cuts : goal.returns-clause-cuts
returns-clause-cuts c = (
  λ yes. fits_cuts c.args.self.now c.args.text.now (sym (tested c) ∙ yes),
  λ cuts. tested c ∙ cuts_fits c.args.self.now c.args.text.now cuts,
)

pub returns-clause-bounded : goal.returns-clause-bounded
returns-clause-bounded c =
    subst (λ (m : ℕ). c.hit_of.result.cells ≤ (m + 1) * (length c.args.text.now + 1))
    (ap (λ (l : List Step). length l) c.as_slice.ensures.value ∙ steps_count c.args.self.now _ _ c.self.inside.steps.items c.self.view_is c.self.invariant.0) c.hit_of.ensures.bounded

pub returns-clause-cells : goal.returns-clause-cells
returns-clause-cells c = cost_of c.args.self.now c.args.text.now _ _ c.self.inside.steps.items c.as_slice.result.now _ c.self.view_is c.self.invariant.0 c.as_slice.ensures.value (λ i. (c.type_inv.text i).fits) c.hit_of.ensures.cells
