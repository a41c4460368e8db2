-- the files that exist by the records before, and those that are left
use Rattle.std.proofs.Common.{◌≡◌, length, IsTrue, ◌+◌}
use Rattle.std.specs.List.{list_all}
use Rattle.wq_record.specs.Seen.{is_lawful_row}
use Rattle.wq_view.specs.SeenRows.{seen_rows}
use Rattle.wq_view.proofs.existence.existing_in.Given as goal

abbrev pub invariant-loop-known : goal.invariant-loop-known
invariant-loop-known l = record {
  count : l.count + length (seen_rows l.more) ≡ length (seen_rows l.records) + length l.more;
  lawful : IsTrue (list_all is_lawful_row (seen_rows l.more)) → IsTrue (list_all is_lawful_row (seen_rows l.records));
}

abbrev pub decreases-loop-known : goal.decreases-loop-known
decreases-loop-known l = length l.more
