-- the fields that are read, and the names that are left
use Rattle.std.proofs.Common.{◌≡◌, drop}
use Rattle.serde_json.specs.View.{items_view}
use Rattle.wq_query.specs.Reading.{fields_in}
use Rattle.wq_base.proofs.Fault.{before}
use Rattle.wq_query.proofs.key.fields_in.Given as goal

abbrev pub invariant-loop-name : goal.invariant-loop-name
invariant-loop-name l = before l.fields.items (fields_in (items_view (drop l.name-index l.names))) ≡ fields_in (items_view l.names)
