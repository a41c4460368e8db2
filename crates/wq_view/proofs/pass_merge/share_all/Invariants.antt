-- the chunks so far
use Rattle.std.proofs.Common.{◌≡◌, ◌++◌, length, take}
use Rattle.wq_view.specs.ChunkFiller.{filled}
use Rattle.wq_view.specs.Chunk.{records_in}
use Rattle.wq_view.specs.Moves.{moves_data, with_same}
use Rattle.wq_view.proofs.pass_merge.share_all.Given as goal

abbrev pub invariant-loop-slot : goal.invariant-loop-slot
invariant-loop-slot l = record {
  made : filled l.filling ≡ filled l.initial.filling ++ records_in (take l.slot-index l.slots);
  moves : moves_data l.moves ≡ with_same (length (records_in (take l.slot-index l.slots))) (moves_data l.initial.moves);
}
