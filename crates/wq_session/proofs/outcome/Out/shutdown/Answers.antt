-- The line that is kept is that of the reply.
use Rattle.wq_session.proofs.FixedOutputs.{shutdown_said}
use Rattle.wq_session.proofs.outcome.Out.shutdown.Goals as goal

pub returns : goal.returns
returns c = shutdown_said
