use Rattle.std.proofs.Common.{arith, ◌≡◌, ◌∙◌, length}
use Rattle.wq_glob.proofs.PatternLemmas.{steps_count, steps_few}
use Rattle.wq_glob.proofs.pattern.Pattern.atoms.Goals as goal

pub returns-clause-count : goal.returns-clause-count
returns-clause-count c =
    let len : c.len.result ≡ length c.self.inside.steps.items = omega (arith, c.self.inside.steps.ok.0) in
    len ∙ steps_count c.args.self.now _ _ c.self.inside.steps.items c.self.view_is c.self.invariant.0

pub returns-clause-few : goal.returns-clause-few
returns-clause-few c =
    omega (arith, c.self.inside.steps.ok.0, steps_few c.args.self.now _ _ c.self.inside.steps.items c.self.view_is c.self.invariant.0)
