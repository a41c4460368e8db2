-- One record more was tried.
use Rattle.std.proofs.Common.{◌≡◌, slice_get, Some, subst, ◌∙◌, arith}
use Rattle.wq_view.specs.View.{ViewData}
use Rattle.wq_gen.specs.Candidate.{is_fitting}
use Rattle.wq_gen.proofs.Looks.{one_more_few}
use Rattle.wq_gen.proofs.Positions.{goes_on}
use Rattle.wq_gen.proofs.glob.fitting.Goals as goal

pub loop-i-preserved : goal.loop-i-preserved
loop-i-preserved g c = record {
  same = c.look.ensures.same ∙ c.loop-i.invariant.same;
  found = goes_on (is_fitting c.args.patterns.now) c.args.counted.now.view.records c.loop-i.i c.look.result.now c.is_fitting.result c.loop-i.found.items _ c.loop-i.invariant.found (subst (λ (v : ViewData). slice_get v.records c.loop-i.i ≡ Some c.look.result.now) c.loop-i.invariant.same c.look.ensures.value) c.is_fitting.ensures c.in_ok-keep_if.ensures;
  few = omega (arith, c.loop-i.invariant.few, c.look.ensures.count, one_more_few c.loop-i.counted.count);
}
