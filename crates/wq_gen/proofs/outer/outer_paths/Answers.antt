-- No paths, and the kept ones of sorted paths.
use Rattle.std.proofs.Common.{sym, ◌∙◌, arith}
use Rattle.wq_gen.proofs.Kept.{all_few, all_found, ends, none_found}
use Rattle.wq_gen.proofs.outer.outer_paths.Goals as goal

pub returns-in_default-clause-found : goal.returns-in_default-clause-found
returns-in_default-clause-found c =
    none_found (λ p. p.now) c.args.paths.now c.deref.result.now c.new-kept.result.items (rw (sym c.deref.ensures.value) at c.in_ok-sorted.ensures.same) c.new-kept.ensures.items c.in_default.ensures.cases

pub returns-clause-found : goal.returns-clause-found
returns-clause-found c =
    let made = ends (λ p. p.now) c.loop-path.kept.items c.in-Some.later.now c.loop-path.last.now c.loop-path.path-index _ (omega (arith, c.loop-path-test.false)) c.loop-path.invariant in
    all_found (λ p. p.now) c.args.paths.now c.in_ok-sorted.sorted.items c.loop-path.kept.items c.in_ok-sorted.ensures.same c.in-Some.first.now c.in-Some.later.now (sym c.deref.ensures.value ∙ c.in-Some.ensures.cases.0) made

pub returns-clause-few : goal.returns-clause-few
returns-clause-few c =
    let made = ends (λ p. p.now) c.loop-path.kept.items c.in-Some.later.now c.loop-path.last.now c.loop-path.path-index _ (omega (arith, c.loop-path-test.false)) c.loop-path.invariant in
    all_few (λ p. p.now) c.args.paths.now c.in_ok-sorted.sorted.items c.loop-path.kept.items c.in_ok-sorted.ensures.same c.in-Some.first.now c.in-Some.later.now (sym c.deref.ensures.value ∙ c.in-Some.ensures.cases.0) made c.in_ok-sorted.ensures.rise
