-- The rows are in the open patch, or memory ran out for them.
use Rattle.std.proofs.Common.{rules, ◌≡◌, ◌++◌, ◌∷◌, [], refl, ap, ◌∙◌}
use Rattle.wq_patch.proofs.PatchRuns.{added_left, added_rows, added_within, on_err, same_both, same_left, same_open, same_rows, same_within}
use Rattle.wq_patch.proofs.patch_maker.PatchMaker.add.Goals as goal

pub returns-clause-rows : goal.returns-clause-rows
returns-clause-rows c records =
    let rows : c.push.new.self.items ≡ c.open.new.self.last.rows.items ++ (c.args.row ∷ []) = search rules in
    added_rows records c.open.new.self _ (c.args.row ∷ []) c.in_ok-open.ensures.open c.in_ok-open.ensures.open refl refl rows
    ∙ ap (λ front. front ++ (c.args.row ∷ [])) (same_rows c.args.self.now c.open.new.self c.in_ok-open.ensures.same records)

pub returns-clause-left : goal.returns-clause-left
returns-clause-left c records = added_left records c.open.new.self _ c.in_ok-open.ensures.open c.in_ok-open.ensures.open refl refl refl ∙ same_left c.args.self.now c.open.new.self c.in_ok-open.ensures.same records

pub returns-clause-within : goal.returns-clause-within
returns-clause-within c records are = added_within records c.open.new.self _ c.in_ok-open.ensures.open c.in_ok-open.ensures.open refl refl refl (same_within c.args.self.now c.open.new.self c.in_ok-open.ensures.same records are)

pub returns-in_err-push-clause-same : goal.returns-in_err-push-clause-same
returns-in_err-push-clause-same c =
    let rows : c.push.new.self.items ≡ c.open.new.self.last.rows.items = search rules in
    on_err c.from_residual-in_err-push.result _ (same_both c.args.self.now c.open.new.self _ c.in_ok-open.ensures.same (same_open c.open.new.self _ c.in_ok-open.ensures.open c.in_ok-open.ensures.open refl refl refl rows))
