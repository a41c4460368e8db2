-- what is made, and what is left to make
use Rattle.std.proofs.Common.{◌≡◌, ◌++◌, length, IsTrue}
use Rattle.std.specs.List.{list_all}
use Rattle.wq_view.specs.Chunk.{records_in}
use Rattle.wq_view.specs.ChunkFiller.{filled}
use Rattle.wq_view.specs.Moves.{moves_data, no_moves}
use Rattle.wq_view.specs.Patching.{has_lawful_rows, patched_after, patched_moves}
use Rattle.wq_view.specs.Records.{records_left}
use Rattle.wq_view.proofs.patch_merge.chunks_patched.Given as goal

abbrev pub invariant-loop-patch : goal.invariant-loop-patch
invariant-loop-patch l = record {
  lawful : IsTrue (list_all has_lawful_rows l.more);
  made : filled l.filling ++ patched_after l.at.tick l.at.second (records_left l.left) l.more ≡ patched_after l.at.tick l.at.second (records_in l.slots) l.patches;
  moves : patched_moves (moves_data l.moves) (records_left l.left) l.more ≡ patched_moves no_moves (records_in l.slots) l.patches;
}

abbrev pub decreases-loop-patch : goal.decreases-loop-patch
decreases-loop-patch l = length l.more
