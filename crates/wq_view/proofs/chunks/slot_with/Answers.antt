-- The slots before the one that is found end at the position or earlier, and it ends behind it.
use Rattle.std.proofs.Common.{◌<◌, ◌≤◌, ◌+◌, leb, length, rules}
use Rattle.std.proofs.lemmas.Fn.{always_returns_same}
use Rattle.std.proofs.lemmas.List.Sorted.{IsPartitionedBy-leb}
use Rattle.wq_view.specs.declared.chunk.Slot.{Slot}
use Rattle.wq_view.specs.Chunk.{count_before}
use Rattle.wq_view.proofs.Located.{ends_rise, slot_found}
use Rattle.wq_view.proofs.chunks.slot_with.Goals as goal

-- the slot that is found is one, begins at the position or earlier, and ends behind it
found : (c : goal.After-partition_point) → (c.partition_point.result < length c.args.slots.now) × (count_before c.args.slots.now c.partition_point.result ≤ c.args.i) × (c.args.i < count_before c.args.slots.now (c.partition_point.result + 1))
found c = slot_found c.args.slots.now c.requires.chunks c.partition_point.result c.args.i c.partition_point.ensures.bound c.requires.bound (c.partition_point.ensures.partitioned (λ (s : Slot). leb s.end c.args.i) (always_returns_same _ _ _ (λ a r g called. search rules)) (IsPartitionedBy-leb (λ (s : Slot). s.end) c.args.slots.now c.args.i (ends_rise c.args.slots.now c.requires.chunks)))

pub returns-clause-bound : goal.returns-clause-bound
returns-clause-bound c = (found c).0

pub returns-clause-from : goal.returns-clause-from
returns-clause-from c = (found c).1

pub returns-clause-to : goal.returns-clause-to
returns-clause-to c = (found c).2
