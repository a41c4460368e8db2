-- the first positions of the order, all of which changed after the tick
use Rattle.std.proofs.Common.{◌≡◌, ◌≤◌, ◌+◌, ◌-◌, ◌*◌, true, length, take}
use Rattle.std.specs.List.{AllByRecursion}
use Rattle.wq_clock.specs.declared.bound.Bound.TheVariants.{Tick}
use Rattle.wq_view.specs.Position.{passes_at}
use Rattle.wq_view.specs.View.{newest_of}
use Rattle.wq_gen.specs.Candidate.{changed_since}
use Rattle.wq_gen.proofs.since.newest_after.Given as goal

abbrev pub invariant-loop-i : goal.invariant-loop-i
invariant-loop-i l = record {
  same : l.counted.view ≡ l.initial.counted.view;
  taken : l.found.items ≡ take (length l.found.items) (newest_of l.initial.counted.view);
  all : AllByRecursion (λ i. passes_at (changed_since (Tick l.tick)) l.initial.counted.view.records i ≡ true) l.found.items;
  few : l.counted.count ≤ l.initial.counted.count + 2 * length l.found.items;
}

abbrev pub decreases-loop-i : goal.decreases-loop-i
decreases-loop-i l = length (newest_of l.counted.view) - length l.found.items
