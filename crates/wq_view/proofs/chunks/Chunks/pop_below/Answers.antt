-- One chunk less.
use Rattle.std.proofs.Common.{length, ap, subst, ◌∙◌, arith, length-append}
use Rattle.wq_view.specs.Chunk.{AreChunks, records_in, slot_records}
use Rattle.wq_view.proofs.Slots.{chunks_pop, records_push}
use Rattle.wq_view.proofs.chunks.Chunks.pop_below.Goals as goal

pub invariant_of-self-2 : goal.invariant_of-self-2
invariant_of-self-2 c =
    let slots = c.pop.new.self.items in
    let slot = c.in_ok-slot.slot in
    let all = c.in_ok-slot.ensures.items in
    let count = ap (λ s. length (records_in s)) all ∙ ap length (records_push slots slot) in
    (chunks_pop 0 slots slot (subst (AreChunks 0) all c.self.invariant.0), omega (arith, count, length-append (records_in slots) (slot_records slot), c.self.invariant.1))
