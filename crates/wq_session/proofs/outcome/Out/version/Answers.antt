-- The line that is kept is that of the reply.
use Rattle.wq_session.proofs.FixedOutputs.{version_said}
use Rattle.wq_session.proofs.outcome.Out.version.Goals as goal

pub returns : goal.returns
returns c = version_said
