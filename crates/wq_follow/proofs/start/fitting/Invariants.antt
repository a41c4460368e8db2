-- the reader has the view's records, and the names so far with the names that fit in the rest of the
-- room are those that fit
use Rattle.std.proofs.Common.{◌≡◌, ◌++◌, take, drop}
use Rattle.wq_view.specs.Position.{records_at}
use Rattle.wq_follow.specs.Start.{fitting, max_appended, file_names}
use Rattle.wq_follow.proofs.start.fitting.Given as goal

abbrev pub invariant-loop-place : goal.invariant-loop-place
invariant-loop-place l = record {
  reads : l.reader ≡ l.view.records;
  count : l.count ≡ l.place-index;
  fits : file_names (records_at l.view.records (take l.place-index l.places))
      ++ fitting l.room (file_names (records_at l.view.records (drop l.place-index l.places)))
      ≡ fitting max_appended (file_names (records_at l.view.records l.places));
}
