-- the fields that are left are put among those so far
use Rattle.std.proofs.Common.{◌≡◌, [], drop}
use Rattle.wq_reply.specs.Printing.{with_fields}
use Rattle.wq_reply.proofs.form.in_order.Given as goal

abbrev pub invariant-loop-field : goal.invariant-loop-field
invariant-loop-field l = with_fields l.ordered.items (drop l.field-index l.fields) ≡ with_fields [] l.fields
