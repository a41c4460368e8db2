-- the same records are left, in fewer chunks
use Rattle.std.proofs.Common.{◌≡◌, length}
use Rattle.wq_view.specs.Records.{records_left}
use Rattle.wq_view.proofs.records.RecordsIterator.next.Given as goal

abbrev pub invariant-loop-slot : goal.invariant-loop-slot
invariant-loop-slot l = records_left l.self ≡ records_left l.initial.self

abbrev pub decreases-loop-slot : goal.decreases-loop-slot
decreases-loop-slot l = length l.self.slots.now
