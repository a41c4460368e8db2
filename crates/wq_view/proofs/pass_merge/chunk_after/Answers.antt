-- All pairs are left; when none is left, the chunk has the names of the one before.
use Rattle.std.proofs.Common.{◌++◌, map, ap, ◌∙◌}
use Rattle.std.specs.List.{list_all}
use Rattle.wq_view.specs.Merge.{pair_after}
use Rattle.wq_view.specs.Moves.{moves_data, with_pairs}
use Rattle.wq_view.specs.Pair.{has_lawful_row, pairs_left}
use Rattle.wq_view.specs.Run.{run_pairs}
use Rattle.wq_view.proofs.Runs.{all_kept, rows_lawful}
use Rattle.wq_view.proofs.pass_merge.chunk_after.Goals as goal

pub loop-pair-init : goal.loop-pair-init
loop-pair-init c =
    let known = ap (λ rs. run_pairs rs c.args.rows.now) c.records-known.ensures.value in
    let pairs = c.of-pairs.ensures.pairs ∙ known in
    record {
      made = ap (λ l. l ++ map (pair_after c.args.at.now.tick c.args.at.now.second) (pairs_left c.of-pairs.result)) c.in_ok-records.ensures.items ∙ ap (map (pair_after c.args.at.now.tick c.args.at.now.second)) pairs;
      lawful = ap (list_all has_lawful_row) pairs ∙ rows_lawful c.args.chunk.now c.args.rows.now c.requires.lawful;
      moves = ap (λ ps. with_pairs ps (moves_data c.args.moves.now)) pairs;
    }

pub of_same_names-requires : goal.of_same_names-requires
of_same_names-requires c = all_kept c.args.at.now.tick c.args.at.now.second c.args.chunk.now c.loop-pair.records.items c.args.rows.now (pairs_left c.loop-pair.pairs) c.requires.names c.in_default.ensures.pairs.0 c.loop-pair.invariant.made
