-- The numbers so far, with those of the subscriptions that are left, are those of all.
use Rattle.std.proofs.Common.{◌≡◌, map, drop}
use Rattle.wq_follow.specs.Followed.{subscription_data}
use Rattle.wq_replay.specs.Client.{numbers_from, root_numbers_of}
use Rattle.wq_replay.proofs.clients.root_numbers.Given as goal

abbrev pub invariant-loop-subscription : goal.invariant-loop-subscription
invariant-loop-subscription l =
    numbers_from l.numbers.items (map subscription_data (drop l.subscription-index l.subscriptions)) ≡ root_numbers_of (map subscription_data l.subscriptions)
