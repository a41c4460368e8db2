-- the reader has the view's records, and the values so far with those of the rest are the values of
-- the files
use Rattle.std.proofs.Common.{◌≡◌, ◌++◌, map, drop}
use Rattle.serde_json.specs.View.{view as data_of}
use Rattle.wq_clock.specs.Instance.{instance_data}
use Rattle.wq_view.specs.Position.{records_at}
use Rattle.wq_reply.specs.Reply.{file_data}
use Rattle.wq_reply.proofs.values.file_values.Given as goal

abbrev pub invariant-loop-place : goal.invariant-loop-place
invariant-loop-place l = record {
  reads : l.reader ≡ l.view.records;
  values : map data_of l.files.items
      ++ map (file_data l.plan.fields.items (instance_data l.instance) l.plan.bound) (records_at l.view.records (drop l.place-index l.places))
      ≡ map (file_data l.plan.fields.items (instance_data l.instance) l.plan.bound) (records_at l.view.records l.places);
}
