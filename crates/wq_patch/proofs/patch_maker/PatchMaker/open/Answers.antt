-- Nothing to do, no memory, and a patch that is begun.
use Rattle.std.proofs.Common.{rules, ◌≡◌, ◌∷◌, ◌++◌, [], ap, refl, ◌∙◌}
use Rattle.wq_view.specs.declared.patch.Patch.{Patch}
use Rattle.wq_patch.proofs.PatchRuns.{opened, same_piece}
use Rattle.wq_patch.proofs.patch_maker.PatchMaker.open.Goals as goal

pub returns-then-self-eq0-clause-same : goal.returns-then-self-eq0-clause-same
returns-then-self-eq0-clause-same c = same_piece c.args.self.now c.args.self.now refl refl refl

pub returns-in-Err-clause-same : goal.returns-in-Err-clause-same
returns-in-Err-clause-same c =
    let done : c.push.new.self.items ≡ c.args.self.now.done.items = search rules in
    same_piece c.args.self.now _ done (c.in-Err.ensures.value_returned ∙ c.replace-last.ensures.value) refl

pub returns-clause-same : goal.returns-clause-same
returns-clause-same c =
    let done : c.push.new.self.items ≡ c.args.self.now.done.items ++ (c.args.self.now.last ∷ []) = search rules in
    let begun = c.replace-last.ensures.after in
    opened c.args.self.now _ done (ap (λ (p : Patch). p.kept) begun) (ap (λ (p : Patch). p.replaced) begun) (ap (λ (p : Patch). p.rows.items) begun ∙ c.new.ensures.items) refl
