-- One chunk more ends where all end.
use Rattle.std.proofs.Common.{◌≡◌, ◌+◌, ◌≤◌, length, sym, ap, subst, ◌∙◌, arith, length-append}
use Rattle.wq_view.specs.declared.chunk.Slot.{Slot}
use Rattle.wq_view.specs.Chunk.{AreChunks, records_in}
use Rattle.wq_view.specs.Limit.{max_records}
use Rattle.wq_view.proofs.Slots.{chunks_push, records_push}
use Rattle.wq_view.proofs.chunks.Chunks.push.Goals as goal

pub invariant_of-self-2 : goal.invariant_of-self-2
invariant_of-self-2 c =
    let slots = c.self.inside.slots.items in
    let slot : Slot = record { end = c.len-before.result + length c.records.result.now; chunk = c.args.chunk } in
    let before : c.len-before.result ≡ length (records_in slots) = c.len-before.ensures.value ∙ ap length (sym c.self.view_is) in
    let count : length c.records.result.now ≡ length c.args.chunk.value = ap length (c.records.ensures.value ∙ c.deref.ensures) in
    let some = ap length c.deref.ensures in
    let all = ap length (records_push slots slot) in (
      subst (AreChunks 0) (sym c.in_ok-push.ensures.items) (chunks_push 0 slots slot c.self.invariant.0 (omega (arith, before, count)) (omega (arith, some, c.records.ensures.some))),
      subst (λ s. length (records_in s) ≤ max_records) (sym c.in_ok-push.ensures.items) (omega (arith, all, length-append (records_in slots) c.args.chunk.value, before, count, c.if-end-gt-MAX_RECORDS.false)),
    )
