-- One chunk more that stays as it is.
use Rattle.std.proofs.Common.{length, sym, ap, ◌∙◌}
use Rattle.wq_view.specs.ChunkFiller.{filled}
use Rattle.wq_view.specs.Moves.{moves_data, with_same}
use Rattle.wq_view.proofs.MoveSteps.{kept_step, shared_step}
use Rattle.wq_view.proofs.pass_merge.share_all.Goals as goal

pub loop-slot-preserved : goal.loop-slot-preserved
loop-slot-preserved c =
    let slot = c.slot-item.result in
    let known = c.records.ensures.value ∙ c.deref.ensures in
    record {
      made = shared_step c.args.slots.now c.loop-slot.slot-index slot c.loop-slot-test.true (sym c.slot-item.is) (filled c.args.filling.now) (filled c.loop-slot.filling) (filled c.share.new.self) c.loop-slot.invariant.made c.in_ok-share.ensures;
      moves = kept_step c.args.slots.now c.loop-slot.slot-index slot c.loop-slot-test.true (sym c.slot-item.is) (moves_data c.args.moves.now) (moves_data c.loop-slot.moves) (moves_data c.keep.new.self) c.loop-slot.invariant.moves (c.in_ok-keep.ensures ∙ ap (λ rs. with_same (length rs) (moves_data c.loop-slot.moves)) known);
    }
