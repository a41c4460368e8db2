-- The place among all records is that in the chunk, or after all.
use Rattle.std.proofs.Common.{◌≡◌, ◌+◌, ◌<◌, ◌≤◌, true, false, length, ap, subst, sym, arith}
use Rattle.std.specs.List.Sorted.{IsPartitionedBy, IsPartitionPoint}
use Rattle.std.proofs.lemmas.Fn.{always_returns_same}
use Rattle.wq_view.specs.Chunk.{IsChunkAt, is_chunk_before, records_in}
use Rattle.wq_view.proofs.Located.{fits, chunks_parted, chunk_parted, all_before, place_in_all}
use Rattle.wq_view.proofs.chunks.Chunks.partition_point.Goals as goal

pub returns-then-at-len-clause-partitioned : goal.returns-then-at-len-clause-partitioned
returns-then-at-len-clause-partitioned g c p by parted =
    let slots = c.self.inside.slots.items in
    let all : IsPartitionedBy p (records_in slots) = subst (IsPartitionedBy p) (sym c.self.view_is) parted in
    let first = c.partition_point-at.ensures.partitioned (is_chunk_before p) (always_returns_same _ _ _ (λ a r f' k. (k.met.1 p by, λ j. record { 0 = k.met.0 j }))) (subst (IsPartitionedBy (is_chunk_before p)) (sym c.deref.ensures.value) (chunks_parted slots c.self.invariant.0 p all)) in
    let chunks = subst (λ s. IsPartitionPoint (λ s. is_chunk_before p s ≡ true) (λ s. is_chunk_before p s ≡ false) s c.partition_point-at.result) c.deref.ensures.value first in
    let here = all_before slots c.self.invariant.0 p all c.partition_point-at.result (omega (arith, c.len.ensures, c.if-at-len.true)) (omega (arith, c.partition_point-at.ensures.bound, c.deref.ensures.len)) chunks.0 in
    let count = c.len-then-at-len.ensures.value in
    subst (λ n. IsPartitionPoint (λ r. p r ≡ true) (λ r. p r ≡ false) c.args.self.now n) (sym count) (subst (λ rs. IsPartitionPoint (λ r. p r ≡ true) (λ r. p r ≡ false) rs (length rs)) c.self.view_is here)

-- the chunk that has the place, among those of the view
chunk : (g : _) (c : goal.After-partition_point g) → IsChunkAt c.self.inside.slots.items c.partition_point-at.result c.chunk_at-start.result.0 c.chunk_at-start.result.1.now
chunk g c = subst (λ s. IsChunkAt s c.partition_point-at.result c.chunk_at-start.result.0 c.chunk_at-start.result.1.now) c.deref-2.ensures.value c.chunk_at-start.ensures

within : (g : _) (c : goal.After-partition_point g) → c.partition_point-at.result < length c.self.inside.slots.items
within g c = omega (arith, c.partition_point-at.ensures.bound, c.deref.ensures.len, c.len.ensures, c.if-at-len.false)

-- the chunk is no longer than all records
fits_in : (g : _) (c : goal.After-partition_point g) → c.chunk_at-start.result.0 + c.partition_point.result ≤ length (records_in c.self.inside.slots.items)
fits_in g c = omega (arith, fits c.self.inside.slots.items c.self.invariant.0 c.partition_point-at.result c.chunk_at-start.result.0 c.chunk_at-start.result.1.now (within g c) (chunk g c), c.partition_point.ensures.bound)

pub overflow_add-result : goal.overflow_add-result
overflow_add-result g c = omega (arith, fits_in g c, c.self.invariant.1)

pub returns-clause-bound : goal.returns-clause-bound
returns-clause-bound g c = omega (arith, fits_in g c, ap length c.self.view_is)

pub returns-clause-few : goal.returns-clause-few
returns-clause-few g c = omega (arith, fits_in g c, c.self.invariant.1)

pub returns-clause-partitioned : goal.returns-clause-partitioned
returns-clause-partitioned g c p by parted =
    let slots = c.self.inside.slots.items in
    let at = c.partition_point-at.result in
    let start = c.chunk_at-start.result.0 in
    let run = c.chunk_at-start.result.1.now in
    let all : IsPartitionedBy p (records_in slots) = subst (IsPartitionedBy p) (sym c.self.view_is) parted in
    let first = c.partition_point-at.ensures.partitioned (is_chunk_before p) (always_returns_same _ _ _ (λ a r f' k. (k.met.1 p by, λ j. record { 0 = k.met.0 j }))) (subst (IsPartitionedBy (is_chunk_before p)) (sym c.deref.ensures.value) (chunks_parted slots c.self.invariant.0 p all)) in
    let here = c.partition_point.ensures.partitioned p by (chunk_parted slots c.self.invariant.0 p all at start c.partition_point.result run (within g c) (chunk g c)) in
    let chunks = subst (λ s. IsPartitionPoint (λ s. is_chunk_before p s ≡ true) (λ s. is_chunk_before p s ≡ false) s at) c.deref.ensures.value first in
    subst (λ rs. IsPartitionPoint (λ r. p r ≡ true) (λ r. p r ≡ false) rs (start + c.partition_point.result)) c.self.view_is (place_in_all slots c.self.invariant.0 p all at start c.partition_point.result run (within g c) (chunk g c) c.partition_point.ensures.bound chunks here)
