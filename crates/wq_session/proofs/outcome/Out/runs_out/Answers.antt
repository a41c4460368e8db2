-- The line that is kept is that of the reply.
use Rattle.wq_session.proofs.FixedOutputs.{ran_out_said}
use Rattle.wq_session.proofs.outcome.Out.runs_out.Goals as goal

pub returns : goal.returns
returns c = ran_out_said c.args.cursor
