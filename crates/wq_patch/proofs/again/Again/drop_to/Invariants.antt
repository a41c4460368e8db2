-- no file was found, and the records stay the same
use Rattle.std.proofs.Common.{◌≡◌}
use Rattle.wq_patch.proofs.again.Again.drop_to.Given as goal

abbrev pub invariant-loop : goal.invariant-loop
invariant-loop l = record {
  records : l.self.records ≡ l.fn.self.records;
  found : l.self.found ≡ l.fn.self.found;
}
