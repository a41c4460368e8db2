-- One record more is in the open patch.
use Rattle.std.proofs.Common.{length, refl, ap, subst, sym, ◌≤◌, ◌∙◌, drop}
use Rattle.wq_patch.proofs.PatchRuns.{covered_left, covered_rows, covered_within, same_left, same_rows, same_within}
use Rattle.wq_patch.proofs.patch_maker.PatchMaker.cover.Goals as goal

pub returns-clause-rows : goal.returns-clause-rows
returns-clause-rows c records = covered_rows records c.open.new.self _ c.in_ok-open.ensures.open c.in_ok-open.ensures.open refl refl refl ∙ same_rows c.args.self.now c.open.new.self c.in_ok-open.ensures.same records

pub returns-clause-left : goal.returns-clause-left
returns-clause-left c records = covered_left records c.open.new.self _ c.in_ok-open.ensures.open c.in_ok-open.ensures.open refl refl refl ∙ ap (drop 1) (same_left c.args.self.now c.open.new.self c.in_ok-open.ensures.same records)

pub returns-clause-within : goal.returns-clause-within
returns-clause-within c records are there =
    covered_within records c.open.new.self _ c.in_ok-open.ensures.open c.in_ok-open.ensures.open refl refl refl (same_within c.args.self.now c.open.new.self c.in_ok-open.ensures.same records are)
    (subst (λ rs. 1 ≤ length rs) (sym (same_left c.args.self.now c.open.new.self c.in_ok-open.ensures.same records)) there)
