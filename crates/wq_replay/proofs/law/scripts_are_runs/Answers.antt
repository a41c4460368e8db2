-- The law by its lemma.
use Rattle.wq_replay.proofs.Scripts.{scripts_are_runs}
use Rattle.wq_replay.proofs.law.scripts_are_runs.Goals as goal

pub returns : goal.returns
returns c = scripts_are_runs
