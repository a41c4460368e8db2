-- The reader reads the one value of a text.
use Rattle.std.proofs.Common.{IsTrue, refl, subst}
use mathlib.Core.Bool.{false≢true}
use Rattle.serde_json.specs.View.{view}
use Rattle.wq_ask.proofs.Texts.{value_read, no_value}
use Rattle.wq_ask.proofs.ask.read_value.Goals as goal

pub returns-in-Ok : goal.returns-in-Ok
returns-in-Ok c = value_read c.args.line.now (view c.in-Ok.value) c.in-Ok.ensures.ok.0 c.in-Ok.ensures.ok.1

pub returns-in-Err-2 : goal.returns-in-Err-2
returns-in-Err-2 c = (no_value c.args.line.now (c.in-Err.ensures.err (λ memory. false≢true (subst IsTrue c.if-is_memory.false (c.is_memory.ensures.1 memory)))), refl)
