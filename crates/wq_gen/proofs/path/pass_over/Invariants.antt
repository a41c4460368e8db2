-- the positions found so far, and the looks
use Rattle.std.proofs.Common.{◌≡◌, ◌≤◌, ◌+◌, ◌++◌}
use Rattle.wq_gen.specs.Depth.{under_between}
use Rattle.wq_gen.proofs.path.pass_over.Given as goal

abbrev pub invariant-loop-i : goal.invariant-loop-i
invariant-loop-i l = record {
  same : l.counted.view ≡ l.initial.counted.view;
  found : l.found.items ≡ l.initial.found.items ++ under_between l.path l.initial.counted.view.records l.at l.i;
  few : l.counted.count + l.at + 1 ≤ l.initial.counted.count + l.i;
}
