-- what is added, and what is left to add
use Rattle.std.proofs.Common.{◌≡◌, ◌++◌, length}
use Rattle.wq_view.specs.SeenRows.{seen_rows}
use Rattle.wq_view.specs.Records.{records_left}
use Rattle.wq_patch.proofs.rows.push_seen.Given as goal

abbrev pub invariant-loop-record : goal.invariant-loop-record
invariant-loop-record l = l.rows.items ++ seen_rows (records_left l.left) ≡ l.initial.rows.items ++ seen_rows (records_left l.records)

abbrev pub decreases-loop-record : goal.decreases-loop-record
decreases-loop-record l = length (records_left l.left)
