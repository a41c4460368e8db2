-- the tokens so far and then those of the rest are the tokens of the object
use Rattle.std.proofs.Common.{◌≡◌, ◌++◌, drop}
use Rattle.json.specs.Tree.{json_tokens, members_tokens}
use Rattle.serde_json.specs.Data.{object}
use Rattle.serde_json.specs.Written.{outline, members_outline}
use Rattle.wq_clock.specs.Instance.{instance_data}
use Rattle.wq_reply.specs.Printing.{members_of}
use Rattle.wq_reply.proofs.printer.print_object.Given as goal

abbrev pub invariant-loop-field : goal.invariant-loop-field
invariant-loop-field l = record {
  before : l.out.before ≡ l.fn.out.before;
  tokens : l.out.tokens ++ members_tokens (members_outline (members_of (instance_data l.instance) l.bound l.file (drop l.field-index l.fields)))
      ≡ l.fn.out.tokens ++ json_tokens (outline (object (members_of (instance_data l.instance) l.bound l.file l.fields)));
}
