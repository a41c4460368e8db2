-- The run has ended, if there is one.
use Rattle.std.proofs.Common.{map}
use Rattle.wq_replay.specs.Stands.{happening_data}
use Rattle.wq_replay.proofs.Steps.{finished_run}
use Rattle.wq_replay.proofs.step.finish.Goals as goal

pub returns : goal.returns
returns g c = λ at is.
    finished_run at c.args.name.now (map happening_data c.in_ok-ends.ends.items) _ _ c.happen.result c.happen.new.stage (c.in_ok-ends.ensures at.world is.world) (c.happen.ensures at is)
