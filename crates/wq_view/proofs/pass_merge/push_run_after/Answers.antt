-- All pairs are left, and their rows are lawful; then the first of them is taken.
use Rattle.std.proofs.Common.{◌++◌, map, ap, ◌∙◌}
use Rattle.std.specs.List.{list_all}
use Rattle.wq_view.specs.ChunkFiller.{filled}
use Rattle.wq_view.specs.Merge.{pair_after}
use Rattle.wq_view.specs.Moves.{moves_data, with_pairs}
use Rattle.wq_view.specs.Pair.{has_lawful_row}
use Rattle.wq_view.proofs.Runs.{rows_lawful}
use Rattle.wq_view.proofs.pass_merge.push_run_after.Goals as goal

pub loop-pair-init : goal.loop-pair-init
loop-pair-init c = record {
  made = ap (λ l. filled c.args.filling.now ++ map (pair_after c.args.at.now.tick c.args.at.now.second) l) c.of-pairs.ensures.pairs;
  lawful = ap (list_all has_lawful_row) c.of-pairs.ensures.pairs ∙ rows_lawful c.args.records.now c.args.rows.now c.requires.lawful;
  moves = ap (λ ps. with_pairs ps (moves_data c.args.moves.now)) c.of-pairs.ensures.pairs;
}
