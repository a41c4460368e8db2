-- The next record is passed.
use Rattle.std.proofs.Common.{◌≡◌, ◌+◌, ◌∷◌, drop, length, take, ap, sym, ◌∙◌, arith}
use Rattle.wq_patch.specs.Again.{AgainData}
use Rattle.wq_patch.specs.PatchMaker.{records_to_come}
use Rattle.wq_view.specs.Records.{records_left}
use Rattle.wq_patch.proofs.PatchRuns.{same_left, same_rows, same_within}
use Rattle.wq_patch.proofs.Passed.{next_left}
use Rattle.wq_patch.proofs.again.Again.cover_next.Goals as goal

pub invariant_of-self : goal.invariant_of-self
invariant_of-self c =
    let it = c.self.inside in
    let records = take it.count (records_left it.all) in (
      c.self.invariant.0,
      c.self.invariant.1,
      same_left it.made c.cover.new.self c.in_err-cover.ensures.same records ∙ c.self.invariant.2,
      same_within it.made c.cover.new.self c.in_err-cover.ensures.same records c.self.invariant.3,
      c.self.invariant.4 ∙ ap length (sym (same_rows it.made c.cover.new.self c.in_err-cover.ensures.same records)),
      omega (arith, c.self.invariant.5, c.in_err-cover.ensures.same_tail),
      omega (arith, c.self.invariant.6, c.in_err-cover.ensures.same_last),
    )

pub returns-in_err-cover-clause-found : goal.returns-in_err-cover-clause-found
returns-in_err-cover-clause-found c =
    let it = c.self.inside in
    let records = take it.count (records_left it.all) in
    same_rows it.made c.cover.new.self c.in_err-cover.ensures.same records ∙ ap (λ (a : AgainData). a.found) c.self.view_is

pub invariant_of-self-2 : goal.invariant_of-self-2
invariant_of-self-2 c =
    let it = c.self.inside in
    let records = take it.count (records_left it.all) in
    let next = next_left (records_left it.all) (records_left it.left) (records_left c.in-Some.left) c.in-Some.field-0-0.now it.passed it.count c.self.invariant.0 c.self.invariant.1 c.in-Some.ensures.some.0 c.in-Some.ensures.some.1 in
    let come : records_to_come records it.made ≡ c.in-Some.field-0-0.now ∷ drop (it.passed + 1) records = c.self.invariant.2 ∙ next.0 in (
      next.2,
      next.1,
      c.in_ok-cover.ensures.left records ∙ ap (drop 1) come,
      c.in_ok-cover.ensures.within records c.self.invariant.3 (omega (arith, ap length come)),
      c.self.invariant.4 ∙ ap length (sym (c.in_ok-cover.ensures.rows records)),
      omega (arith, c.in_ok-cover.ensures.tail, c.self.invariant.5),
      omega (arith, c.in_ok-cover.ensures.replaced, c.self.invariant.6),
    )
