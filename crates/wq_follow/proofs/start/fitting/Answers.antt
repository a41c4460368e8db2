-- One name more has room.
use Rattle.std.proofs.Common.{◌+◌, rules, ap, ◌∙◌}
use Rattle.wq_follow.proofs.Appended.{fits_more}
use Rattle.wq_follow.proofs.start.fitting.Goals as goal

pub loop-place-preserved : goal.loop-place-preserved
loop-place-preserved c = record {
  reads = c.get.ensures.same ∙ c.loop-place.invariant.reads;
  count = ap (λ n. n + 1) c.loop-place.invariant.count;
  fits = fits_more c.args.view.now.records c.args.places.now c.loop-place.place-index _ c.loop-place.room c.get.result.now c.as_bytes-length.result.now _
      c.loop-place-test.true (rw c.loop-place.invariant.reads at c.get.ensures.value) (search rules) c.if-length-room.false c.loop-place.invariant.fits;
}
