-- The number of one more subscription.
use Rattle.std.proofs.Common.{map}
use Rattle.std.proofs.lemmas.List.{drop_all}
use Rattle.wq_follow.specs.Followed.{subscription_data}
use Rattle.wq_replay.specs.Client.{root_numbers_of}
use Rattle.wq_replay.proofs.Follows.{numbers_all, numbers_next}
use Rattle.wq_replay.proofs.clients.root_numbers.Goals as goal

pub returns : goal.returns
returns c =
    numbers_all c.loop-subscription.numbers.items c.args.subscriptions.now c.loop-subscription.subscription-index (root_numbers_of (map subscription_data c.args.subscriptions.now))
    (drop_all c.loop-subscription.subscription-index c.args.subscriptions.now c.loop-subscription-test.false) c.loop-subscription.invariant

pub loop-subscription-preserved : goal.loop-subscription-preserved
loop-subscription-preserved c =
    numbers_next c.loop-subscription.numbers.items c.put_number.new.numbers.items c.args.subscriptions.now c.loop-subscription.subscription-index
    c.subscription-item.result c.number.result (root_numbers_of (map subscription_data c.args.subscriptions.now))
    c.loop-subscription-test.true c.subscription-item.is c.number.ensures c.in_ok-put_number.ensures c.loop-subscription.invariant
