-- The happenings that led to the world go on.
use Rattle.wq_replay.proofs.Worlds.{leads_on}
use Rattle.wq_replay.proofs.world.World.play.Goals as goal

pub returns-else-is_err-clause-leads : goal.returns-else-is_err-clause-leads
returns-else-is_err-clause-leads c = λ first events said leads.
    leads_on first events _ said c.args.self.now c.play_all-sent.new.self c.play_all-sent.result leads c.play_all-sent.ensures
