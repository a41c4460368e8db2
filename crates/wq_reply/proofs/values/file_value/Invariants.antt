-- the members so far, and the fields that are left
use Rattle.std.proofs.Common.{◌≡◌, drop}
use Rattle.serde_json.specs.Data.{no_members}
use Rattle.serde_json.specs.View.{members_view}
use Rattle.wq_clock.specs.Instance.{instance_data}
use Rattle.wq_reply.specs.Reply.{members_with}
use Rattle.wq_reply.proofs.values.file_value.Given as goal

abbrev pub invariant-loop-field : goal.invariant-loop-field
invariant-loop-field l = members_with (instance_data l.instance) l.bound l.file (members_view l.members.entries) (drop l.field-index l.fields) ≡ members_with (instance_data l.instance) l.bound l.file no_members l.fields
