-- the positions found so far, and the looks
use Rattle.std.proofs.Common.{◌≡◌, ◌≤◌, ◌+◌, ◌-◌, filter}
use Rattle.std.specs.List.{range_with_len}
use Rattle.wq_view.specs.Position.{passes_at}
use Rattle.wq_gen.specs.Candidate.{is_under}
use Rattle.wq_gen.proofs.path.under.Given as goal

abbrev pub invariant-loop-at : goal.invariant-loop-at
invariant-loop-at l = record {
  same : l.counted.view ≡ l.initial.counted.view;
  found : l.found.items ≡ filter (passes_at (is_under l.path) l.initial.counted.view.records) (range_with_len 0 l.at);
  few : l.counted.count + l.start ≤ l.initial.counted.count + l.at;
  high : l.at ≤ l.end;
}

abbrev pub decreases-loop-at : goal.decreases-loop-at
decreases-loop-at l = l.end - l.at
