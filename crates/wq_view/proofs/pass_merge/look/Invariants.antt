-- what was seen so far and what is left decide
use Rattle.std.proofs.Common.{◌≡◌, ◌&&◌, length}
use Rattle.std.specs.List.{list_all}
use Rattle.wq_view.specs.Merge.{has_record, is_unchanged}
use Rattle.wq_view.specs.Pair.{pairs_left, rows_left}
use Rattle.wq_view.specs.Run.{is_same_run, keeps_names, rows_behind}
use Rattle.wq_view.proofs.pass_merge.look.Given as goal

abbrev pub invariant-loop-pair : goal.invariant-loop-pair
invariant-loop-pair l = record {
  same : (l.is_same && list_all is_unchanged (pairs_left l.pairs)) ≡ is_same_run l.records l.rows;
  names : (l.keeps_names && list_all has_record (pairs_left l.pairs)) ≡ keeps_names l.records l.rows;
  rows : rows_left l.pairs ≡ rows_behind l.records l.rows;
}

abbrev pub decreases-loop-pair : goal.decreases-loop-pair
decreases-loop-pair l = length (pairs_left l.pairs)
