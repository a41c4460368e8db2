-- what is made, and what is left to make
use Rattle.std.proofs.Common.{◌≡◌, ◌++◌, map, length, IsTrue}
use Rattle.std.specs.List.{list_all}
use Rattle.wq_view.specs.ChunkFiller.{filled}
use Rattle.wq_view.specs.Merge.{pair_after}
use Rattle.wq_view.specs.Moves.{moves_data, with_pairs}
use Rattle.wq_view.specs.Pair.{has_lawful_row, pairs_left}
use Rattle.wq_view.specs.Run.{run_after, run_pairs}
use Rattle.wq_view.proofs.pass_merge.push_run_after.Given as goal

abbrev pub invariant-loop-pair : goal.invariant-loop-pair
invariant-loop-pair l = record {
  made : filled l.filling ++ map (pair_after l.at.tick l.at.second) (pairs_left l.pairs) ≡ filled l.initial.filling ++ run_after l.at.tick l.at.second l.records l.rows;
  lawful : IsTrue (list_all has_lawful_row (pairs_left l.pairs));
  moves : with_pairs (pairs_left l.pairs) (moves_data l.moves) ≡ with_pairs (run_pairs l.records l.rows) (moves_data l.initial.moves);
}

abbrev pub decreases-loop-pair : goal.decreases-loop-pair
decreases-loop-pair l = length (pairs_left l.pairs)
