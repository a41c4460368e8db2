-- the reader has the view's records, and the names there with the rest of the names are all names
use Rattle.std.proofs.Common.{◌≡◌, ◌++◌, drop}
use Rattle.wq_view.specs.Position.{records_at}
use Rattle.wq_follow.specs.Start.{file_names}
use Rattle.wq_follow.proofs.start.put_names.Given as goal

abbrev pub invariant-loop-place : goal.invariant-loop-place
invariant-loop-place l = record {
  reads : l.reader ≡ l.view.records;
  names : l.args ++ file_names (records_at l.view.records (drop l.place-index l.places))
      ≡ l.fn.args ++ file_names (records_at l.view.records l.places);
}
