-- The chunk is a run of the records, and has the one at the position.
use Rattle.std.proofs.Common.{◌<◌, ◌≤◌, ◌+◌, length, ap, subst, arith}
use Rattle.wq_view.specs.Chunk.{IsChunkAt, IsRunAt, count_before}
use Rattle.wq_view.proofs.Located.{fits, more, run_there}
use Rattle.wq_view.proofs.chunks.Chunks.chunk_with.Goals as goal

-- the chunk among those of the view
chunk : (c : goal.After-chunk_at) → IsChunkAt c.self.inside.slots.items c.slot_with.result c.chunk_at.result.0 c.chunk_at.result.1.now
chunk c = subst (λ s. IsChunkAt s c.slot_with.result c.chunk_at.result.0 c.chunk_at.result.1.now) c.deref.ensures.value c.chunk_at.ensures

within : (c : goal.After-chunk_at) → c.slot_with.result < length c.self.inside.slots.items
within c = subst (λ s. c.slot_with.result < length s) c.deref-2.ensures.value c.slot_with.ensures.bound

pub returns-clause-piece : goal.returns-clause-piece
returns-clause-piece c =
    let slots = c.self.inside.slots.items in
    let start = c.chunk_at.result.0 in
    let run = c.chunk_at.result.1.now in
    record {
      run_at = subst (λ rs. IsRunAt rs start run) c.self.view_is (run_there slots c.self.invariant.0 c.slot_with.result start run (within c) (chunk c));
      fits = omega (arith, fits slots c.self.invariant.0 c.slot_with.result start run (within c) (chunk c), ap length c.self.view_is);
    }

pub returns-clause-from : goal.returns-clause-from
returns-clause-from c = omega (arith, (chunk c).before, subst (λ s. count_before s c.slot_with.result ≤ c.args.i) c.deref-2.ensures.value c.slot_with.ensures.from)

pub returns-clause-to : goal.returns-clause-to
returns-clause-to c = omega (arith, more c.self.inside.slots.items c.self.invariant.0 c.slot_with.result c.chunk_at.result.0 c.chunk_at.result.1.now (within c) (chunk c), subst (λ s. c.args.i < count_before s (c.slot_with.result + 1)) c.deref-2.ensures.value c.slot_with.ensures.to)
