-- the chunks so far
use Rattle.std.proofs.Common.{◌≡◌, take}
use Rattle.wq_view.specs.Chunk.{records_in}
use Rattle.wq_view.proofs.chunks.Chunks.copy.Given as goal

abbrev pub invariant-loop-slot : goal.invariant-loop-slot
invariant-loop-slot l = l.copy ≡ records_in (take l.slot-index l.slot-items)
