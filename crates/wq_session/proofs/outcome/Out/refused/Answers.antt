-- The line that is kept for a refusal is that of its reply.
use Rattle.std.proofs.Common.{inl}
use Rattle.serde_json.specs.Written.{compact_text}
use Rattle.wq_ask.specs.Reply.{error_data}
use Rattle.wq_session.proofs.FixedOutputs.{fixed_said}
use Rattle.wq_session.proofs.Newlines.{kept_line}
use Rattle.wq_session.proofs.outcome.Out.refused.Goals as goal

pub invariant_of-result : goal.invariant_of-result
invariant_of-result c = kept_line (compact_text (error_data c.args.refusal)) c.in-Some.line.now c.in-Some.ensures.line

pub returns-in-Some : goal.returns-in-Some
returns-in-Some c = inl (fixed_said c.args.refusal c.in-Some.line.now c.ends_session.result c.in-Some.ensures.line c.ends_session.ensures)
