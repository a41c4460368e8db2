-- the rows of the records so far
use Rattle.std.proofs.Common.{◌≡◌, drop, take}
use Rattle.wq_view.specs.SeenRows.{seen_rows}
use Rattle.wq_view.specs.Records.{records_left}
use Rattle.wq_patch.proofs.rows.rows_of.Given as goal

abbrev pub invariant-loop : goal.invariant-loop
invariant-loop l = record {
  left : records_left l.left ≡ drop l.counter (records_left l.records);
  made : l.rows.items ≡ seen_rows (take l.counter (records_left l.records));
}
