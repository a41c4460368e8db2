-- An answer leaves the shelf that its calls lead to.
use Rattle.wq_session.proofs.Rounds.{rounds_are_calls}
use Rattle.wq_session.proofs.law.rounds_are_calls.Goals as goal

pub returns : goal.returns
returns c = rounds_are_calls
