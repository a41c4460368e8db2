-- What is passed over is below the directory; else one record more was tried.
use Rattle.std.proofs.Common.{◌≡◌, ℕ, ◌+◌, ◌++◌, ◌&&◌, nat_le, nat_lt, slice_get, Some, ap, subst, ◌∙◌, arith}
use Rattle.wq_view.specs.Below.{is_below}
use Rattle.wq_view.specs.Position.{passes_at}
use Rattle.wq_view.specs.View.{ViewData}
use Rattle.wq_gen.specs.Depth.{under_between}
use Rattle.wq_gen.proofs.Between.{ends_after, one_on, passed_over}
use Rattle.wq_gen.proofs.Looks.{one_more_few}
use Rattle.wq_gen.proofs.path.pass_over.Goals as goal

pub returns-then-is_some-clause-found : goal.returns-then-is_some-clause-found
returns-then-is_some-clause-found c =
    let rs = c.args.counted.now.view.records in
    let dir = c.args.directory.now in
    let from = c.below-next.result.0 in
    let to = c.below-next.result.1 in
    let exact = subst (λ (v : ViewData). (i : ℕ) → passes_at (is_below dir) v.records i ≡ (nat_le from i && nat_lt i to)) c.look-last.ensures.same c.below-next.ensures.exact in
    passed_over c.args.path.now rs dir from to c.args.at c.args.at c.min.result c.args.found.now.items c.requires.deep exact c.requires.there (omega (arith, c.min.ensures, ends_after dir rs from to c.args.at exact c.requires.there, c.requires.ahead)) (omega (arith, c.min.ensures))

pub loop-i-preserved : goal.loop-i-preserved
loop-i-preserved c = record {
  same = c.look.ensures.same ∙ c.loop-i.invariant.same;
  found = one_on c.args.path.now c.look-last.new.self.view.records c.args.at c.loop-i.i c.look.result.now c.is_under.result c.args.found.now.items c.loop-i.found.items c.keep_if.new.found.items (omega (arith, c.loop-i.auto.i)) (subst (λ (v : ViewData). slice_get v.records c.loop-i.i ≡ Some c.look.result.now) c.loop-i.invariant.same c.look.ensures.value) c.is_under.ensures c.loop-i.invariant.found c.in_ok-keep_if.ensures;
  few = omega (arith, c.loop-i.invariant.few, c.look.ensures.count, one_more_few c.loop-i.counted.count);
}

pub returns-clause-found : goal.returns-clause-found
returns-clause-found c =
    let old = c.args.found.now.items in
    let at_end : c.loop-i.i ≡ c.args.at + 64 = omega (arith, c.loop-i-test.false, c.loop-i.auto.i-end (omega arith)) in
    let found = c.loop-i.invariant.found ∙ ap (λ n. old ++ under_between c.args.path.now c.look-last.new.self.view.records c.args.at n) at_end ∙ ap (λ (v : ViewData). old ++ under_between c.args.path.now v.records c.args.at (c.args.at + 64)) c.look-last.ensures.same in
    one_on c.args.path.now c.args.counted.now.view.records c.args.at (c.args.at + 64) c.look-last.result.now c.is_under-2.result old c.loop-i.found.items c.keep_if-2.new.found.items (omega arith) c.look-last.ensures.value c.is_under-2.ensures found c.in_ok-keep_if-2.ensures
