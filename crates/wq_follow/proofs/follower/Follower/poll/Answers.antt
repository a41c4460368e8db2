-- There is nothing to tell.
use Rattle.std.proofs.Common.{sym, ◌∙◌}
use Rattle.wq_follow.specs.Followed.{follower_data}
use Rattle.wq_follow.proofs.Polls.{polled_told}
use Rattle.wq_follow.proofs.follower.Follower.poll.Goals as goal

pub returns-then-is_told-clause-batch : goal.returns-then-is_told-clause-batch
returns-then-is_told-clause-batch c =
    let is = c.nothing.ensures.batch c.args.view.now.records in (
      is.0 ∙ polled_told (follower_data c.args.self.now) c.args.view.now c.tick-tick.result c.tick-tick.ensures.value (sym c.is_told.ensures ∙ c.if-is_told.true),
      is.1,
    )
