-- the fields before the place stay, and the field is put among the others
use Rattle.std.proofs.Common.{◌≡◌, ◌++◌, take, drop}
use Rattle.wq_reply.specs.Printing.{with_field}
use Rattle.wq_reply.proofs.form.put_field.Given as goal

abbrev pub invariant-loop-place : goal.invariant-loop-place
invariant-loop-place l = record {
  same : l.ordered.items ≡ l.fn.ordered.items;
  behind : take l.place l.ordered.items ++ with_field l.field (drop l.place l.ordered.items)
      ≡ with_field l.field l.fn.ordered.items;
}
