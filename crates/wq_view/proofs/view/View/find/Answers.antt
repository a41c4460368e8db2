-- The closure compares a record's name with the one sought.
use Rattle.std.proofs.Common.{◌≡◌, ◌<◌, ℕ, true, false, List, length, slice_get, Option, None, MatchOption, ap, ◌∙◌, rules}
use Rattle.std.specs.Bool.{then_some}
use Rattle.std.specs.List.Sorted.{IsPartitionPoint}
use Rattle.std.specs.Ordering.{is_lt}
use Rattle.std.proofs.lemmas.Fn.{always_returns_same}
use Rattle.wq_view.specs.Limit.{max_records}
use Rattle.wq_record.specs.Name.{name_cmp}
use Rattle.wq_view.specs.Position.{has_name, passes_at}
use Rattle.wq_record.specs.RecordData.{RecordData, record_named}
use Rattle.wq_view.proofs.Lookups.{absent_from, found_from, given_if, looked, looked_alone, names_parted}
use Rattle.wq_view.proofs.view.View.find.Goals as goal

-- the result of a look-up by name
abbrev Looked : List ℕ → List RecordData → Option ℕ → Type 0
Looked name records result =
    MatchOption result (record_named name records ≡ None) (λ i. (i < length records) × (slice_get records i ≡ record_named name records))

-- where the names before the one sought end
parted : (c : goal.After-then_some) → IsPartitionPoint (λ (r : RecordData). is_lt (name_cmp r.name c.as_bytes-name.result.now) ≡ true) (λ (r : RecordData). is_lt (name_cmp r.name c.as_bytes-name.result.now) ≡ false) c.self.inside.chunks c.partition_point-at.result
parted c = c.partition_point-at.ensures.partitioned (λ a. is_lt (name_cmp a.name c.as_bytes-name.result.now)) (always_returns_same _ _ _ (λ a r g called. search rules)) (names_parted c.as_bytes-name.result.now c.self.inside.chunks c.self.invariant.1)

-- what the look-up gives
gives : (c : goal.After-then_some) → c.then_some.result ≡ then_some (passes_at (has_name c.args.name.now) c.args.self.now.records c.partition_point-at.result) c.partition_point-at.result
gives c = c.then_some.ensures ∙ ap (λ b. then_some b c.partition_point-at.result) (c.has_name_at.ensures.value ∙ ap (λ q. passes_at (has_name q) c.args.self.now.records c.partition_point-at.result) c.as_bytes-name.ensures.value)

found : (c : goal.After-then_some) → Looked c.args.name.now c.args.self.now.records c.then_some.result
found c = rw (gives c) (rw (← c.self.view_is, ← c.as_bytes-name.ensures.value) (looked c.as_bytes-name.result.now c.self.inside.chunks c.partition_point-at.result c.self.invariant.1 c.partition_point-at.ensures.bound (parted c)))

pub returns-clause-absent : goal.returns-clause-absent
returns-clause-absent c = absent_from _ _ c.then_some.result (found c)

pub returns-clause-found : goal.returns-clause-found
returns-clause-found c = found_from _ _ c.then_some.result (found c)

pub returns-clause-only : goal.returns-clause-only
returns-clause-only c = rw (gives c) (rw (← c.self.view_is, ← c.as_bytes-name.ensures.value) (looked_alone c.as_bytes-name.result.now c.self.inside.chunks c.partition_point-at.result c.self.invariant.1 c.partition_point-at.ensures.bound (parted c)))

pub returns-clause-bound : goal.returns-clause-bound
returns-clause-bound c = given_if (λ i. i < max_records) c.has_name_at.result c.partition_point-at.result c.then_some.result c.then_some.ensures c.has_name_at.ensures.bound
