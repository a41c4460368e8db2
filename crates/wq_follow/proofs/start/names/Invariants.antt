-- the reader has the view's records, and the lines so far with the rest of the lines are all lines
use Rattle.std.proofs.Common.{◌≡◌, ◌++◌, drop}
use Rattle.wq_view.specs.Position.{records_at}
use Rattle.wq_follow.specs.Start.{name_lines}
use Rattle.wq_follow.proofs.start.names.Given as goal

abbrev pub invariant-loop-place : goal.invariant-loop-place
invariant-loop-place l = record {
  reads : l.reader ≡ l.view.records;
  lines : l.text.items ++ name_lines (records_at l.view.records (drop l.place-index l.places))
      ≡ name_lines (records_at l.view.records l.places);
}
