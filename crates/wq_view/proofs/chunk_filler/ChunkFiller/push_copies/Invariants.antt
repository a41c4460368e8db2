-- the copies so far
use Rattle.std.proofs.Common.{◌≡◌, ◌++◌, take}
use Rattle.wq_view.specs.ChunkFiller.{filled}
use Rattle.wq_view.proofs.chunk_filler.ChunkFiller.push_copies.Given as goal

abbrev pub invariant-loop-known : goal.invariant-loop-known
invariant-loop-known l = filled l.self ≡ filled l.initial.self ++ take l.known-index l.records
