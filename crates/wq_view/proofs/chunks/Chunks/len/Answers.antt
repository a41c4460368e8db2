-- The last slot says where it ends.
use Rattle.std.proofs.Common.{◌≡◌, ◌-◌, length, slice_get, sym, ap, ◌∙◌, arith}
use Rattle.wq_view.specs.Chunk.{records_in}
use Rattle.wq_view.proofs.Slots.{last_is}
use Rattle.wq_view.proofs.chunks.Chunks.len.Goals as goal

-- where the last slot ends
ends : (c : goal.In-Some) → c.in-Some.slot.now.end ≡ length (records_in c.self.inside.slots.items)
ends c = last_is c.self.inside.slots.items c.in-Some.slot.now c.self.invariant.0 (ap (λ slots. slice_get slots (length slots - 1)) (sym c.deref.ensures.value) ∙ sym c.in-Some.ensures.value)

pub returns-in-Some-clause-value : goal.returns-in-Some-clause-value
returns-in-Some-clause-value c = ends c ∙ ap length c.self.view_is

pub returns-in-Some-clause-few : goal.returns-in-Some-clause-few
returns-in-Some-clause-few c = omega (arith, ends c, c.self.invariant.1)
