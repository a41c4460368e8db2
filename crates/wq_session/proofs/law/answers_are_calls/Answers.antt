-- An answer leaves the shelf that its calls lead to.
use Rattle.wq_session.proofs.Accepting.{answers_are_calls}
use Rattle.wq_session.proofs.law.answers_are_calls.Goals as goal

pub returns : goal.returns
returns c = answers_are_calls
