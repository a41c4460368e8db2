-- The numbers are those of the client that was found, or none.
use Rattle.std.proofs.Common.{◌≡◌, ℤ, List, IfOk, position, map, ap, sym, subst, ◌∙◌}
use mir.Facts.{to_z-of_z}
use Rattle.wq_follow.specs.Followed.{subscription_data}
use Rattle.wq_follow.specs.Subscription.{SubscriptionData}
use Rattle.wq_session.specs.Followed.{follows_of}
use Rattle.wq_replay.specs.declared.client.Client.{Client}
use Rattle.wq_replay.specs.Client.{follows_in, is_of, root_numbers_of}
use Rattle.wq_replay.proofs.Follows.{follows_at, follows_none}
use Rattle.wq_replay.proofs.clients.numbers.Goals as goal

pub returns-in-Some : goal.returns-in-Some
returns-in-Some c =
    let placed = subst (λ (z : ℤ). c.place_of.result ≡ position (is_of z) c.args.clients.now) (to_z-of_z c.ranges.number) c.place_of.ensures in
    let same : map subscription_data c.subscriptions.result.now ≡ follows_in c.args.number c.args.clients.now =
    c.subscriptions.ensures
    ∙ ap (λ (x : Client). follows_of x.session) (sym c.index-clients-place.is)
    ∙ follows_at c.args.number c.args.clients.now c.in-Some.place c.index-clients-place.result (sym placed ∙ c.in-Some.is) c.index-clients-place.is in
    subst (λ (follows : List SubscriptionData). IfOk c.root_numbers.result (λ numbers. numbers.items ≡ root_numbers_of follows)) same c.root_numbers.ensures

pub returns-in-None : goal.returns-in-None
returns-in-None c =
    let placed = subst (λ (z : ℤ). c.place_of.result ≡ position (is_of z) c.args.clients.now) (to_z-of_z c.ranges.number) c.place_of.ensures in
    c.new.ensures.items ∙ sym (ap root_numbers_of (follows_none c.args.number c.args.clients.now (sym placed ∙ c.in-None.is)))
