-- the records that are taken, and those that are left to take
use Rattle.std.proofs.Common.{◌≡◌, ◌+◌, drop, length, take, IsTrue}
use Rattle.std.specs.List.{list_all}
use Rattle.wq_record.specs.Seen.{is_lawful_row}
use Rattle.wq_view.specs.SeenRows.{seen_rows}
use Rattle.wq_view.specs.Records.{records_left}
use Rattle.wq_view.proofs.records.Records.run.Given as goal

abbrev pub invariant-loop-stretch : goal.invariant-loop-stretch
invariant-loop-stretch l = record {
  len : l.len + length (take l.more (records_left l.left)) ≡ length (take l.most (records_left l.self));
  existing : l.existing + length (seen_rows (take l.more (records_left l.left))) ≡ length (seen_rows (take l.most (records_left l.self)));
  left : drop l.more (records_left l.left) ≡ drop l.most (records_left l.self);
  lawful : IsTrue (list_all is_lawful_row (seen_rows (take l.more (records_left l.left)))) → IsTrue (list_all is_lawful_row (seen_rows (take l.most (records_left l.self))));
}

abbrev pub decreases-loop-stretch : goal.decreases-loop-stretch
decreases-loop-stretch l = l.more
