-- The next record is passed.
use Rattle.std.proofs.Common.{◌≡◌, ◌+◌, ◌∷◌, [], drop, length, take, ap, sym, subst, ◌∙◌, arith}
use Rattle.wq_patch.specs.Again.{AgainData}
use Rattle.wq_patch.specs.PatchMaker.{records_to_come}
use Rattle.wq_view.specs.Records.{records_left}
use Rattle.wq_patch.proofs.PatchRuns.{same_left, same_rows, same_within}
use Rattle.wq_patch.proofs.Passed.{next_left, piece_left}
use Rattle.wq_patch.proofs.again.Again.drop_next.Goals as goal

pub invariant_of-self : goal.invariant_of-self
invariant_of-self c =
    let it = c.self.inside in
    let records = take it.count (records_left it.all) in (
      c.self.invariant.0,
      c.self.invariant.1,
      same_left it.made c.miss.new.self c.in_err-miss.ensures.same records ∙ c.self.invariant.2,
      same_within it.made c.miss.new.self c.in_err-miss.ensures.same records c.self.invariant.3,
      c.self.invariant.4 ∙ ap length (sym (same_rows it.made c.miss.new.self c.in_err-miss.ensures.same records)),
      omega (arith, c.self.invariant.5, c.in_err-miss.ensures.same_tail),
      omega (arith, c.self.invariant.6, c.in_err-miss.ensures.same_last),
    )

pub returns-in_err-miss-clause-found : goal.returns-in_err-miss-clause-found
returns-in_err-miss-clause-found c =
    let it = c.self.inside in
    let records = take it.count (records_left it.all) in
    same_rows it.made c.miss.new.self c.in_err-miss.ensures.same records ∙ ap (λ (a : AgainData). a.found) c.self.view_is

pub invariant_of-self-2 : goal.invariant_of-self-2
invariant_of-self-2 c =
    let it = c.self.inside in
    let records = take it.count (records_left it.all) in
    let next = next_left (records_left it.all) (records_left it.left) (records_left c.in-Some.left) c.in-Some.known.now it.passed it.count c.self.invariant.0 c.self.invariant.1 c.in-Some.ensures.some.0 c.in-Some.ensures.some.1 in
    let come : records_to_come records it.made ≡ c.in-Some.known.now ∷ drop (it.passed + 1) records = c.self.invariant.2 ∙ next.0 in (
      next.2,
      next.1,
      c.in_ok-miss.ensures.left records ∙ ap (drop 1) come,
      c.in_ok-miss.ensures.within records c.self.invariant.3 (omega (arith, ap length come)),
      c.self.invariant.4 ∙ ap length (sym (c.in_ok-miss.ensures.rows records (drop (it.passed + 1) records) come)),
      omega (arith, c.in_ok-miss.ensures.tail, c.self.invariant.5),
      omega (arith, c.in_ok-miss.ensures.replaced, c.self.invariant.6),
    )

pub returns-in_default-clause-none : goal.returns-in_default-clause-none
returns-in_default-clause-none c is =
    let it = c.self.inside in
    subst (λ (a : AgainData). drop a.passed a.records ≡ []) c.self.view_is
    (piece_left (records_left it.all) (records_left it.left) it.passed it.count c.self.invariant.0 c.self.invariant.1 ∙ c.in_default.ensures.none)

pub returns-clause-found : goal.returns-clause-found
returns-clause-found c =
    let it = c.self.inside in
    let records = take it.count (records_left it.all) in
    let next = next_left (records_left it.all) (records_left it.left) (records_left c.in-Some.left) c.in-Some.known.now it.passed it.count c.self.invariant.0 c.self.invariant.1 c.in-Some.ensures.some.0 c.in-Some.ensures.some.1 in
    c.in_ok-miss.ensures.rows records (drop (it.passed + 1) records) (c.self.invariant.2 ∙ next.0) ∙ ap (λ (a : AgainData). a.found) c.self.view_is
