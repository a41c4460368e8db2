-- The slot says where its chunk ends.
use Rattle.std.proofs.Common.{◌≡◌, ◌+◌, ◌-◌, length, ◌∙◌, arith}
use Rattle.wq_view.specs.Chunk.{count_before}
use Rattle.wq_view.proofs.Located.{start_is, chunk_is}
use Rattle.wq_view.proofs.chunks.chunk_at.Goals as goal

-- where the chunk begins and ends
ends : (c : goal.After-records-records) → c.index-slots-at.result.end ≡ count_before c.args.slots.now c.args.at + length c.records-records.result.now
ends c = start_is c.args.slots.now c.requires.chunks c.args.at c.index-slots-at.result c.records-records.result.now c.requires.bound c.index-slots-at.is (c.records-records.ensures.value ∙ c.deref.ensures)

pub overflow_sub-result : goal.overflow_sub-result
overflow_sub-result c = omega (arith, ends c)

pub returns : goal.returns
returns c = chunk_is c.args.slots.now c.requires.chunks c.args.at (c.index-slots-at.result.end - length c.records-records.result.now) c.index-slots-at.result c.records-records.result.now c.requires.bound c.index-slots-at.is (c.records-records.ensures.value ∙ c.deref.ensures) (omega (arith, start_is c.args.slots.now c.requires.chunks c.args.at c.index-slots-at.result c.records-records.result.now c.requires.bound c.index-slots-at.is (c.records-records.ensures.value ∙ c.deref.ensures)))
