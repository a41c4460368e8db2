-- The subscriptions with another root or name are left.
use Rattle.std.proofs.Common.{rules, ap, map, not, ◌∙◌}
use Rattle.std.proofs.lemmas.Fn.{filter_same}
use Rattle.wq_follow.specs.Followed.{subscription_data}
use Rattle.wq_session.specs.Followed.{is_called}
use Rattle.wq_session.proofs.Called.{filter_made}
use Rattle.wq_session.proofs.followed.drop_called.Goals as goal

pub returns : goal.returns
returns c =
    ap (map subscription_data) (filter_same _ _ _ (λ x b f' k. search rules) _ _ c.retain.ensures.filtered)
    ∙ filter_made subscription_data (λ s. not (is_called c.args.number c.args.name.now s)) c.args.subscriptions.now.items
