-- what is kept, and what is left to keep
use Rattle.std.proofs.Common.{◌≡◌, ◌++◌, drop, length, take}
use Rattle.wq_view.specs.ChunkFiller.{filled}
use Rattle.wq_view.specs.Moves.{moves_data, with_same}
use Rattle.wq_view.specs.Records.{records_left}
use Rattle.wq_view.proofs.patch_merge.keep.Given as goal

abbrev pub invariant-loop-stretch : goal.invariant-loop-stretch
invariant-loop-stretch l = record {
  made : filled l.filling ++ take l.more (records_left l.left) ≡ filled l.initial.filling ++ take l.count (records_left l.records);
  left : drop l.more (records_left l.left) ≡ drop l.count (records_left l.records);
  moves : with_same (length (take l.more (records_left l.left))) (moves_data l.moves) ≡ with_same (length (take l.count (records_left l.records))) (moves_data l.initial.moves);
}

abbrev pub decreases-loop-stretch : goal.decreases-loop-stretch
decreases-loop-stretch l = l.more
