-- A chunk that stays as it is, is the same after the pass.
use Rattle.std.proofs.Common.{◌≡◌, ◌++◌, true, length, ap, sym, ◌∙◌}
use Rattle.wq_view.specs.ChunkFiller.{filled}
use Rattle.wq_view.specs.Run.{is_same_run}
use Rattle.wq_view.specs.Chunk.{slot_records}
use Rattle.wq_view.specs.Moves.{moves_data, with_same}
use Rattle.wq_view.proofs.Runs.{same_after}
use Rattle.wq_view.proofs.MoveSteps.{same_run}
use Rattle.wq_view.proofs.pass_merge.push_after.Goals as goal

pub returns-then-seen-clause-records : goal.returns-then-seen-clause-records
returns-then-seen-clause-records c =
    let known = c.records-records.ensures.value ∙ c.deref.ensures in
    let same : is_same_run (slot_records c.args.slot.now) c.args.rows.now ≡ true = ap (λ rs. is_same_run rs c.args.rows.now) (sym known) ∙ sym c.look-seen.ensures.same ∙ c.if-seen.true in
    c.in_ok-share.ensures
    ∙ ap (λ rs. filled c.args.filling.now ++ rs) (sym (same_after c.args.at.now.tick c.args.at.now.second (slot_records c.args.slot.now) c.args.rows.now same))

pub returns-then-seen-clause-moves : goal.returns-then-seen-clause-moves
returns-then-seen-clause-moves c =
    let known = c.records-records.ensures.value ∙ c.deref.ensures in
    let same : is_same_run (slot_records c.args.slot.now) c.args.rows.now ≡ true = ap (λ rs. is_same_run rs c.args.rows.now) (sym known) ∙ sym c.look-seen.ensures.same ∙ c.if-seen.true in
    c.in_ok-keep.ensures
    ∙ ap (λ rs. with_same (length rs) (moves_data c.args.moves.now)) known
    ∙ same_run (slot_records c.args.slot.now) c.args.rows.now (moves_data c.args.moves.now) same
