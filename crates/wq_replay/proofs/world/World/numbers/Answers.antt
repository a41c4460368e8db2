-- The numbers of the client in the world.
use Rattle.std.proofs.Common.{◌≡◌, ℤ, List, IfOk, sym, subst}
use mir.Facts.{to_z-of_z}
use Rattle.wq_follow.specs.Subscription.{SubscriptionData}
use Rattle.wq_replay.specs.Client.{follows_in, root_numbers_of}
use Rattle.wq_replay.specs.declared.client.Client.{Client}
use Rattle.wq_replay.proofs.world.World.numbers.Goals as goal

pub returns : goal.returns
returns c = λ before stands.
    subst (λ (follows : List SubscriptionData). IfOk c.numbers.result (λ numbers. numbers.items ≡ root_numbers_of follows)) (sym (stands.follows c.args.client))
    (subst (λ (items : List Client). IfOk c.numbers.result (λ numbers. numbers.items ≡ root_numbers_of (follows_in c.args.client items))) c.deref.ensures.value
    (subst (λ (client : ℤ). IfOk c.numbers.result (λ numbers. numbers.items ≡ root_numbers_of (follows_in client c.deref.result.now))) (to_z-of_z c.ranges.client) c.numbers.ensures))
