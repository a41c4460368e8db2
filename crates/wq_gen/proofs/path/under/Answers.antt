-- The records below a path are in one range.
use Rattle.std.proofs.Common.{◌≡◌, ℕ, ◌≤◌, ◌++◌, ◌&&◌, nat_le, nat_lt, filter, length, refl, sym, ap, subst, ◌∙◌, arith}
use Rattle.std.specs.List.{range_with_len}
use Rattle.wq_view.specs.Below.{is_below}
use Rattle.wq_view.specs.Position.{passes_at, positions_of}
use Rattle.wq_view.specs.View.{ViewData}
use Rattle.wq_gen.specs.Candidate.{is_under}
use Rattle.wq_gen.specs.Depth.{under_between}
use Rattle.wq_gen.proofs.Between.{so_far}
use Rattle.wq_gen.proofs.Looks.{one_more_few, range_counted}
use Rattle.wq_gen.proofs.Paths.{under_begins, under_ends}
use Rattle.wq_gen.proofs.path.under.Goals as goal

pub go_on-requires-clause-fits : goal.go_on-requires-clause-fits
go_on-requires-clause-fits c = omega (arith, c.below-start.ensures.bound, ap (λ (v : ViewData). length v.records) (c.loop-at.invariant.same ∙ c.below-start.ensures.same))

pub loop-at-preserved : goal.loop-at-preserved
loop-at-preserved c =
    let view = c.below-start.new.self.view in
    let next = c.in_ok-at.at in
    let now = subst (λ (v : ViewData). c.go_on.new.found.items ≡ c.loop-at.found.items ++ under_between c.args.path.now v.records c.loop-at.at next) c.loop-at.invariant.same c.in_ok-at.ensures.found in
    record {
      same = c.go_on.ensures.same ∙ c.loop-at.invariant.same;
      found = so_far c.args.path.now view.records c.loop-at.at next c.loop-at.found.items c.go_on.new.found.items (omega (arith, c.in_ok-at.ensures.on.0)) c.loop-at.invariant.found now;
      few = omega (arith, c.loop-at.invariant.few, c.in_ok-at.ensures.looks);
      high = c.in_ok-at.ensures.on.1;
    }

pub loop-at-init : goal.loop-at-init
loop-at-init c = record {
  same = refl;
  found = c.new-found.ensures.items ∙ under_begins c.args.path.now c.below-start.new.self.view.records c.below-start.result.0 c.below-start.result.1 (subst (λ (v : ViewData). (i : ℕ) → passes_at (is_below c.args.path.now.path) v.records i ≡ (nat_le c.below-start.result.0 i && nat_lt i c.below-start.result.1)) (sym c.below-start.ensures.same) (rw c.as_str.ensures at c.below-start.ensures.exact));
  few = omega arith;
  high = c.below-start.ensures.rise;
}

pub returns-in_err-at-clause-few : goal.returns-in_err-at-clause-few
returns-in_err-at-clause-few c =
    let counted = range_counted c.args.path.now.path c.args.counted.now.view.records c.below-start.result.0 c.below-start.result.1 (rw c.as_str.ensures at c.below-start.ensures.exact) c.below-start.ensures.rise c.below-start.ensures.bound in
    omega (arith, counted, c.loop-at.invariant.few, c.go_on.ensures.few, c.below-start.ensures.count, one_more_few c.args.counted.now.count, c.below-start.ensures.rise)

pub returns-clause-found : goal.returns-clause-found
returns-clause-found c =
    let at_end : c.loop-at.at ≡ c.below-start.result.1 = omega (arith, c.loop-at-test.false, c.loop-at.invariant.high) in
    let exact = subst (λ (v : ViewData). (i : ℕ) → passes_at (is_below c.args.path.now.path) v.records i ≡ (nat_le c.below-start.result.0 i && nat_lt i c.below-start.result.1)) (sym c.below-start.ensures.same) (rw c.as_str.ensures at c.below-start.ensures.exact) in
    let fits : c.below-start.result.1 ≤ length c.below-start.new.self.view.records = omega (arith, c.below-start.ensures.bound, ap (λ (v : ViewData). length v.records) c.below-start.ensures.same) in
    c.loop-at.invariant.found ∙ ap (λ n. filter (passes_at (is_under c.args.path.now) c.below-start.new.self.view.records) (range_with_len 0 n)) at_end ∙ under_ends c.args.path.now c.below-start.new.self.view.records c.below-start.result.0 c.below-start.result.1 fits exact ∙ ap (λ (v : ViewData). positions_of (is_under c.args.path.now) v.records) c.below-start.ensures.same

pub returns-clause-few : goal.returns-clause-few
returns-clause-few c =
    let at_end : c.loop-at.at ≡ c.below-start.result.1 = omega (arith, c.loop-at-test.false, c.loop-at.invariant.high) in
    let counted = range_counted c.args.path.now.path c.args.counted.now.view.records c.below-start.result.0 c.below-start.result.1 (rw c.as_str.ensures at c.below-start.ensures.exact) c.below-start.ensures.rise c.below-start.ensures.bound in
    omega (arith, counted, c.loop-at.invariant.few, at_end, c.below-start.ensures.count, one_more_few c.args.counted.now.count, c.below-start.ensures.rise)
