-- the positions found so far, and the looks
use Rattle.std.proofs.Common.{◌≡◌, ◌≤◌, ◌+◌, filter}
use Rattle.std.specs.List.{range_with_len}
use Rattle.wq_view.specs.Position.{passes_at}
use Rattle.wq_gen.specs.Candidate.{is_fitting}
use Rattle.wq_gen.proofs.glob.fitting.Given as goal

abbrev pub invariant-loop-i : goal.invariant-loop-i
invariant-loop-i g l = record {
  same : l.counted.view ≡ l.initial.counted.view;
  found : l.found.items ≡ filter (passes_at (is_fitting l.patterns) l.initial.counted.view.records) (range_with_len 0 l.i);
  few : l.counted.count ≤ l.initial.counted.count + l.i;
}
