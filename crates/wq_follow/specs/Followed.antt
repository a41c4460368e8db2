-- The meaning of the types `Follower`, `Subscription` and `Trigger`.
-- It is this server's own.
use Rattle.wq_reply.specs.Plan.{planned}
use Rattle.wq_follow.specs.Batch.{FollowerData}
use Rattle.wq_follow.specs.Kept.{data_in}
use Rattle.wq_follow.specs.Round.{TriggerData}
use Rattle.wq_follow.specs.Started.{order_data}
use Rattle.wq_follow.specs.Subscription.{SubscriptionData}
use Rattle.wq_follow.specs.declared.follower.Follower.{Follower}
use Rattle.wq_follow.specs.declared.subscription.Subscription.{Subscription}
use Rattle.wq_follow.specs.declared.trigger.Trigger.{Trigger}

-- a follower
abbrev pub follower_data : Follower → FollowerData
follower_data f = record { plan = planned f.plan; last = f.last }

-- a subscription
abbrev pub subscription_data : Subscription → SubscriptionData
subscription_data s = record {
  name = s.name;
  root = s.root;
  number = s.number;
  follower = follower_data s.follower;
}

-- a trigger
abbrev pub trigger_data : Trigger → TriggerData
trigger_data t = record {
  order = order_data t.order;
  follower = follower_data t.follower;
  object = data_in (t.object).value;
  running = t.running;
}
