-- The rest of the chunk that has the position, and the chunks after it.
use Rattle.std.proofs.Common.{◌≡◌, ◌<◌, ◌≤◌, ◌+◌, ◌-◌, ◌++◌, drop, length, subst, ap, sym, ◌∙◌, arith}
use Rattle.wq_view.specs.Chunk.{IsChunkAt, count_before, records_in}
use Rattle.wq_view.proofs.Located.{more, rest_there}
use Rattle.wq_view.proofs.chunks.Chunks.records_from.Goals as goal

pub split_at-requires : goal.split_at-requires
split_at-requires c =
    let slots = c.self.inside.slots.items in
    let at = c.slot_with-at.result in
    let chunk = subst (λ s. IsChunkAt s at c.chunk_at-start.result.0 c.chunk_at-start.result.1.now) c.deref-2.ensures.value c.chunk_at-start.ensures in
    let within : at < length slots = subst (λ s. at < length s) c.deref.ensures.value c.slot_with-at.ensures.bound in
    let to : c.args.i < count_before slots (at + 1) = subst (λ s. c.args.i < count_before s (at + 1)) c.deref.ensures.value c.slot_with-at.ensures.to in
    omega (arith, to, more slots c.self.invariant.0 at c.chunk_at-start.result.0 c.chunk_at-start.result.1.now within chunk)

pub returns : goal.returns
returns c =
    let slots = c.self.inside.slots.items in
    let at = c.slot_with-at.result in
    let start = c.chunk_at-start.result.0 in
    let run = c.chunk_at-start.result.1.now in
    let chunk = subst (λ s. IsChunkAt s at start run) c.deref-2.ensures.value c.chunk_at-start.ensures in
    let within : at < length slots = subst (λ s. at < length s) c.deref.ensures.value c.slot_with-at.ensures.bound in
    let from : count_before slots at ≤ c.args.i = subst (λ s. count_before s at ≤ c.args.i) c.deref.ensures.value c.slot_with-at.ensures.from in
    let to : c.args.i < count_before slots (at + 1) = subst (λ s. c.args.i < count_before s (at + 1)) c.deref.ensures.value c.slot_with-at.ensures.to in
    let place : start + (c.args.i - start) ≡ c.args.i = omega (arith, from, chunk.before) in
    let rest = rest_there slots c.self.invariant.0 at start run within chunk (c.args.i - start) (omega (arith, to, more slots c.self.invariant.0 at start run within chunk)) in
    ap (λ rs. rs ++ records_in c.split_at-2.result.1.now) c.split_at.ensures.back
    ∙ ap (λ s. drop (c.args.i - start) run ++ records_in s) (c.split_at-2.ensures.back ∙ ap (drop (at + 1)) c.deref-3.ensures.value)
    ∙ sym rest
    ∙ ap (λ n. drop n (records_in slots)) place
    ∙ ap (drop c.args.i) c.self.view_is
