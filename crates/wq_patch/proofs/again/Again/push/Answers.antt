-- The rows were added, or memory ran out for them.
use Rattle.std.proofs.Common.{length, take, ap, sym, ◌∙◌, arith}
use Rattle.wq_patch.specs.Again.{AgainData}
use Rattle.wq_view.specs.Records.{records_left}
use Rattle.wq_patch.proofs.PatchRuns.{on_err, same_left, same_rows, same_within}
use Rattle.wq_patch.proofs.again.Again.push.Goals as goal

pub invariant_of-self : goal.invariant_of-self
invariant_of-self c =
    let it = c.self.inside in
    let records = take it.count (records_left it.all) in (
      c.self.invariant.0,
      c.self.invariant.1,
      same_left it.made c.add.new.self c.in_err-add.ensures.same records ∙ c.self.invariant.2,
      same_within it.made c.add.new.self c.in_err-add.ensures.same records c.self.invariant.3,
      c.self.invariant.4 ∙ ap length (sym (same_rows it.made c.add.new.self c.in_err-add.ensures.same records)),
      omega (arith, c.self.invariant.5, c.add.ensures.tail),
      omega (arith, c.self.invariant.6, c.add.ensures.replaced),
    )

pub returns-in_err-add-clause-failed : goal.returns-in_err-add-clause-failed
returns-in_err-add-clause-failed c =
    let it = c.self.inside in
    let records = take it.count (records_left it.all) in
    on_err c.from_residual.result _ (same_rows it.made c.add.new.self c.in_err-add.ensures.same records ∙ ap (λ (a : AgainData). a.found) c.self.view_is)

pub overflow_add-self : goal.overflow_add-self
overflow_add-self c = omega (arith, c.requires, c.self.invariant.4, ap (λ (a : AgainData). length a.found) c.self.view_is)
