-- The law by its lemma.
use Rattle.wq_replay.proofs.Worlds.{runs_go_on}
use Rattle.wq_replay.proofs.law.runs_go_on.Goals as goal

pub returns : goal.returns
returns c = runs_go_on
