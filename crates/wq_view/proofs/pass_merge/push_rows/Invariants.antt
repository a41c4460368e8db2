-- the new records so far
use Rattle.std.proofs.Common.{◌≡◌, ◌++◌, [], take}
use Rattle.wq_view.specs.ChunkFiller.{filled}
use Rattle.wq_view.specs.Merge.{pairs_of, records_after}
use Rattle.wq_view.specs.Moves.{moves_data, with_pairs}
use Rattle.wq_view.proofs.pass_merge.push_rows.Given as goal

abbrev pub invariant-loop-row : goal.invariant-loop-row
invariant-loop-row l = record {
  made : filled l.filling ≡ filled l.initial.filling ++ records_after l.at.tick l.at.second [] (take l.row-index l.rows);
  moves : moves_data l.moves ≡ with_pairs (pairs_of [] (take l.row-index l.rows)) (moves_data l.initial.moves);
}
