-- One stretch more is replaced.
use Rattle.std.proofs.Common.{◌++◌, ◌-◌, drop, take, ap, sym, ◌∙◌}
use Rattle.std.specs.List.{list_all}
use Rattle.wq_record.specs.Seen.{is_lawful_row}
use Rattle.wq_view.specs.ChunkFiller.{filled}
use Rattle.wq_view.specs.Merge.{pairs_of, records_after}
use Rattle.wq_view.specs.Moves.{moves_data, with_pairs}
use Rattle.wq_view.specs.Records.{records_left}
use Rattle.wq_view.specs.Stretch.{stretch_records}
use Rattle.wq_view.proofs.Runs.{lawful_behind}
use Rattle.wq_view.proofs.Stretches.{left_more, replaced_moves, replaced_on}
use Rattle.wq_view.proofs.patch_merge.replace.Goals as goal

pub loop-stretch-preserved : goal.loop-stretch-preserved
loop-stretch-preserved c =
    let all = records_left c.loop-stretch.left in
    let stretch = stretch_records c.in-Some.stretch in
    let rest = records_left c.take.new.records in
    let more = c.loop-stretch.more in
    let is = c.in-Some.ensures.taken in
    let few = c.in-Some.ensures.few in
    let rows = c.loop-stretch.rows.now in
    let left = c.in_ok-rows.rows.now in
    let left_is = c.in_ok-rows.ensures.left in
    let tick = c.args.at.now.tick in
    let second = c.args.at.now.second in
    record {
      lawful = ap (list_all is_lawful_row) left_is ∙ lawful_behind stretch rows c.loop-stretch.invariant.lawful;
      made = ap (λ n. filled c.replace_stretch.new.filling ++ records_after tick second (take (more - n) rest) left) c.len-more.ensures ∙ replaced_on all stretch rest more is few rows left left_is tick second (filled c.loop-stretch.filling) (filled c.replace_stretch.new.filling) c.in_ok-rows.ensures.records ∙ c.loop-stretch.invariant.made;
      left = ap (λ n. drop (more - n) rest) c.len-more.ensures ∙ sym (left_more all stretch rest more is few) ∙ c.loop-stretch.invariant.left;
      moves = ap (λ n. with_pairs (pairs_of (take (more - n) rest) left) (moves_data c.replace_stretch.new.moves)) c.len-more.ensures ∙ replaced_moves all stretch rest more is few rows left left_is (moves_data c.loop-stretch.moves) (moves_data c.replace_stretch.new.moves) c.in_ok-rows.ensures.moves ∙ c.loop-stretch.invariant.moves;
    }
