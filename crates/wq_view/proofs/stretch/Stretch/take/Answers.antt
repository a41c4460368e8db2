-- The rest of a chunk, a chunk, or its first records.
use Rattle.std.proofs.Common.{rules, ◌≤◌, subst, length, arith, ◌∙◌}
use Rattle.wq_view.specs.Chunk.{records_in}
use Rattle.wq_view.proofs.Stretches.{chunk_taken, rest_taken, some_item, start_taken}
use Rattle.wq_view.proofs.stretch.Stretch.take.Goals as goal

pub returns-then-not-is_empty-clause-taken : goal.returns-then-not-is_empty-clause-taken
returns-then-not-is_empty-clause-taken c = rest_taken c.args.records.now.records.now c.split_at.result.0.now c.split_at.result.1.now (records_in c.args.records.now.slots.now) _ c.split_at.ensures.front c.split_at.ensures.back

pub returns-then-not-is_empty-clause-some : goal.returns-then-not-is_empty-clause-some
returns-then-not-is_empty-clause-some c = omega (arith, c.split_at.ensures.front_len, c.min.ensures, c.if-most-eq0.false, some_item c.args.records.now.records.now c.is_empty.result c.is_empty.ensures c.if-not-is_empty.true)

pub returns-then-not-is_empty-clause-few : goal.returns-then-not-is_empty-clause-few
returns-then-not-is_empty-clause-few c = omega (arith, c.split_at.ensures.front_len, c.min.ensures)

pub returns-then-all-most-clause-taken : goal.returns-then-all-most-clause-taken
returns-then-all-most-clause-taken c = chunk_taken c.args.records.now.records.now c.args.records.now.slots.now c.in_ok-slot.slots.now c.in_ok-slot.slot.now (search rules) (search rules)

pub returns-then-all-most-clause-some : goal.returns-then-all-most-clause-some
returns-then-all-most-clause-some c = subst (λ l. 1 ≤ length l) c.deref.ensures c.records-all.ensures.some

pub returns-then-all-most-clause-few : goal.returns-then-all-most-clause-few
returns-then-all-most-clause-few c = subst (λ l. length l ≤ c.args.most) (c.records-all.ensures.value ∙ c.deref.ensures) c.if-all-most.true

pub returns-clause-taken : goal.returns-clause-taken
returns-clause-taken c = start_taken c.args.records.now.records.now c.args.records.now.slots.now c.in_ok-slot.slots.now c.in_ok-slot.slot.now c.split_at-2.result.0.now c.split_at-2.result.1.now c.records-all.result.now _ (search rules) (search rules) (c.records-all.ensures.value ∙ c.deref.ensures) c.split_at-2.ensures.front c.split_at-2.ensures.back

pub returns-clause-some : goal.returns-clause-some
returns-clause-some c = omega (arith, c.split_at-2.ensures.front_len, c.if-most-eq0.false)

pub returns-clause-few : goal.returns-clause-few
returns-clause-few c = omega (arith, c.split_at-2.ensures.front_len)
