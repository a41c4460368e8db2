-- One is there if it has a place.
use Rattle.std.proofs.Common.{is_some, map, ap, ◌∙◌}
use Rattle.wq_follow.specs.Followed.{subscription_data}
use Rattle.wq_session.specs.Followed.{is_called}
use Rattle.wq_session.proofs.Called.{any_placed, position_made}
use Rattle.wq_session.proofs.followed.has_called.Goals as goal

pub returns : goal.returns
returns c =
    c.is_some.ensures
    ∙ ap is_some (c.place_of.ensures
    ∙ position_made subscription_data (is_called c.args.number c.args.name.now) c.args.subscriptions.now)
    ∙ any_placed (is_called c.args.number c.args.name.now) (map subscription_data c.args.subscriptions.now)
