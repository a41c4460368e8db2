use Rattle.std.proofs.Common.{◌≡◌, Some, None, refl, subst, ℕ, List}
use Rattle.std.specs.Prelude.{slice_get}
use Rattle.std.proofs.lemmas.Option.{slice_get_read, slice_get_past}
use Rattle.wq_verify.proofs.Budgets.{set_cost_of, no_set_cost}
use Rattle.wq_verify.proofs.budget.set_cost.Goals as goal

pub returns-in-Some-clause-value : goal.returns-in-Some-clause-value
returns-in-Some-clause-value c sets is =
    let h = c.in-Some.ensures.lookup in
    let found : slice_get c.args.weights.now c.args.place ≡ Some c.in-Some.weight.now =
    slice_get_read c.args.weights.now _ c.args.place c.in-Some.weight.now refl h.3.0 h.1 in
    rw c.from.ensures
    (set_cost_of sets c.args.width c.args.place c.in-Some.weight.now
    (subst (λ (l : List ℕ). slice_get l c.args.place ≡ Some c.in-Some.weight.now) is found))

pub returns-in-None-clause-value : goal.returns-in-None-clause-value
returns-in-None-clause-value c sets is =
    let h = c.in-None.ensures.lookup in
    let none : slice_get c.args.weights.now c.args.place ≡ None = slice_get_past c.args.weights.now c.args.place h.3 in
    no_set_cost sets c.args.width c.args.place (subst (λ (l : List ℕ). slice_get l c.args.place ≡ None) is none)
