-- One stretch more is kept.
use Rattle.std.proofs.Common.{◌++◌, ◌-◌, drop, length, take, ap, sym, ◌∙◌}
use Rattle.wq_view.specs.ChunkFiller.{filled}
use Rattle.wq_view.specs.Moves.{moves_data, with_same}
use Rattle.wq_view.specs.Records.{records_left}
use Rattle.wq_view.specs.Stretch.{stretch_records}
use Rattle.wq_view.proofs.Stretches.{kept_moves, kept_on, left_more}
use Rattle.wq_view.proofs.patch_merge.keep.Goals as goal

pub loop-stretch-preserved : goal.loop-stretch-preserved
loop-stretch-preserved c =
    let all = records_left c.loop-stretch.left in
    let stretch = stretch_records c.in-Some.stretch in
    let rest = records_left c.take.new.records in
    let more = c.loop-stretch.more in
    let is = c.in-Some.ensures.taken in
    let few = c.in-Some.ensures.few in
    record {
      made = ap (λ n. filled c.keep_stretch.new.filling ++ take (more - n) rest) c.len-more.ensures ∙ kept_on all stretch rest more is few (filled c.loop-stretch.filling) (filled c.keep_stretch.new.filling) c.in_ok-keep_stretch.ensures.records ∙ c.loop-stretch.invariant.made;
      left = ap (λ n. drop (more - n) rest) c.len-more.ensures ∙ sym (left_more all stretch rest more is few) ∙ c.loop-stretch.invariant.left;
      moves = ap (λ n. with_same (length (take (more - n) rest)) (moves_data c.keep_stretch.new.moves)) c.len-more.ensures ∙ kept_moves all stretch rest more is few (moves_data c.loop-stretch.moves) (moves_data c.keep_stretch.new.moves) c.in_ok-keep_stretch.ensures.moves ∙ c.loop-stretch.invariant.moves;
    }
