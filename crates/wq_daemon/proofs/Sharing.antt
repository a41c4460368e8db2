-- A trigger may go from one thread to another, and so may a server that keeps some.
use denote.Param.Send.{IsSend, sendable}
use Rattle.std.proofs.Crossing.{crosses}
use Rattle.std.proofs.MapsCrossing.{crosses as maps}
use Rattle.serde_json.proofs.value.Value.TheLaws.TheKnot.{crosses as values}
use Rattle.wq_base.proofs.table.Table.TheSendSync as Table
use Rattle.wq_base.proofs.text.Text.TheSendSync as Text
use Rattle.wq_clock.proofs.bound.Bound.TheSendSync as Bound
use Rattle.wq_follow.proofs.command_text.CommandText.TheSendSync as CommandText
use Rattle.wq_follow.proofs.object_text.ObjectText.TheSendSync as ObjectText
use Rattle.wq_follow.specs.contracts.trigger.Trigger.{the_row}
use Rattle.wq_glob.proofs.pattern.Pattern.TheSendSync as Pattern
use Rattle.wq_query.proofs.field.Field.TheSendSync as Field
use Rattle.wq_term.proofs.expr.Expr.TheLaws.TheKnot.{crosses as expressions}
use Rattle.wq_verify.proofs.stored.StoredProgram.TheSendSync as StoredProgram

-- a trigger may be handed to another thread
pub trigger_send : IsSend the_row
trigger_send = search (
  StoredProgram.the_send,
  StoredProgram.the_sync,
  Table.the_send,
  Text.the_send,
  Bound.the_send,
  CommandText.the_send,
  ObjectText.the_send,
  Field.the_send,
  Pattern.the_send,
  values,
  expressions,
  maps,
  crosses,
  sendable,
) depth 60 fits 20000
