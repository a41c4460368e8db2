-- The closures ask how a record's name compares to those below the directory.
use Rattle.std.proofs.Common.{rules, ◌≡◌, true, false, sym, ◌∙◌}
use Rattle.std.specs.List.Sorted.{IsPartitionPoint}
use Rattle.std.specs.Ordering.{is_lt, is_le}
use Rattle.std.proofs.lemmas.Fn.{always_returns_same}
use Rattle.wq_view.specs.Below.{order_below}
use Rattle.wq_record.specs.RecordData.{RecordData}
use Rattle.wq_view.proofs.NamesBelow.{before_parts, not_behind_parts, range_rises, range_holds}
use Rattle.wq_view.proofs.view.View.below.Goals as goal

-- where the records below the directory begin, and where they end
from : (c : goal.After-partition_point-end) → IsPartitionPoint (λ (r : RecordData). is_lt (order_below c.as_bytes-dir.result.now r.name) ≡ true) (λ (r : RecordData). is_lt (order_below c.as_bytes-dir.result.now r.name) ≡ false) c.self.inside.chunks c.partition_point-start.result
from c = c.partition_point-start.ensures.partitioned (λ a. is_lt (order_below c.as_bytes-dir.result.now a.name)) (always_returns_same _ _ _ (λ a r g called. search rules)) (before_parts c.as_bytes-dir.result.now c.self.inside.chunks c.self.invariant.1)

to : (c : goal.After-partition_point-end) → IsPartitionPoint (λ (r : RecordData). is_le (order_below c.as_bytes-dir.result.now r.name) ≡ true) (λ (r : RecordData). is_le (order_below c.as_bytes-dir.result.now r.name) ≡ false) c.self.inside.chunks c.partition_point-end.result
to c = c.partition_point-end.ensures.partitioned (λ a. is_le (order_below c.as_bytes-dir.result.now a.name)) (always_returns_same _ _ _ (λ a r g called. search rules)) (not_behind_parts c.as_bytes-dir.result.now c.self.inside.chunks c.self.invariant.1)

pub returns-clause-exact : goal.returns-clause-exact
returns-clause-exact c =
    let holds = range_holds c.as_bytes-dir.result.now c.self.inside.chunks _ _ (from c) (to c) c.partition_point-start.ensures.bound c.partition_point-end.ensures.bound (sym c.is_empty.ensures ∙ c.if-is_empty.false) in
    λ i. rw (← c.self.view_is, ← c.as_bytes-dir.ensures.value) (holds i)

pub returns-clause-rise : goal.returns-clause-rise
returns-clause-rise c = range_rises c.as_bytes-dir.result.now c.self.inside.chunks _ _ (from c) (to c) c.partition_point-start.ensures.bound c.partition_point-end.ensures.bound
