-- One new record more.
use Rattle.std.proofs.Common.{sym}
use Rattle.wq_view.specs.ChunkFiller.{filled}
use Rattle.wq_view.specs.Moves.{moves_data}
use Rattle.wq_view.proofs.MoveSteps.{made_new, new_step}
use Rattle.wq_view.proofs.pass_merge.push_rows.Goals as goal

pub loop-row-preserved : goal.loop-row-preserved
loop-row-preserved c =
    let row = c.row-item.result in
    record {
      made = made_new c.args.at.now.tick c.args.at.now.second c.args.rows.now c.loop-row.row-index row c.loop-row-test.true (sym c.row-item.is) c.in_ok-note_after.field-0 (filled c.args.filling.now) (filled c.loop-row.filling) (filled c.push.new.self) c.loop-row.invariant.made c.in_ok-note_after.ensures.made c.in_ok-push.ensures;
      moves = new_step c.args.rows.now c.loop-row.row-index row c.loop-row-test.true (sym c.row-item.is) (moves_data c.args.moves.now) (moves_data c.loop-row.moves) (moves_data c.note_after.new.moves) c.loop-row.invariant.moves c.in_ok-note_after.ensures.moves;
    }
