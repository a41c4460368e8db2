-- The patches are put after the others.
use Rattle.std.proofs.Common.{rules, ◌≡◌, ◌++◌, ◌∷◌, [], append_assoc, refl, ap, ◌∙◌}
use Rattle.wq_view.specs.declared.patch.Patch.{Patch}
use Rattle.wq_patch.proofs.patch_maker.PatchMaker.put.Goals as goal

pub returns-clause-patches : goal.returns-clause-patches
returns-clause-patches c =
    let all = c.args.all.now.items in
    let it = c.args.self in
    let first : Patch = record { kept = c.args.kept; replaced = 0; rows = c.new.result } in
    let one : c.push.new.self.items ≡ all ++ (first ∷ []) = search rules in
    let more : c.append.new.self.items ≡ c.push.new.self.items ++ it.done.items = search rules in
    let last : c.push-2.new.self.items ≡ c.append.new.self.items ++ (it.last ∷ []) = search rules in (
      first,
      refl,
      refl,
      c.new.ensures.items,
      last ∙ ap (λ ps. ps ++ (it.last ∷ [])) (more ∙ ap (λ ps. ps ++ it.done.items) one)
          ∙ append_assoc (all ++ (first ∷ [])) it.done.items (it.last ∷ [])
          ∙ append_assoc all (first ∷ []) (it.done.items ++ (it.last ∷ [])),
    )
