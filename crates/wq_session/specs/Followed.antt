-- The subscriptions of a session, in the order in which they began. Each is known by the number of
-- its root and its name.
-- From Watchman's documentation of `subscribe`; the limit is this server's own.
use Rattle.std.specs.Prelude.{ℕ, Bool, not, ◌&&◌, nat_eq, nat_le, List, [], ◌∷◌, length, map}
use Rattle.std.specs.Prelude.{filter, if◌then◌else◌}
use Rattle.std.specs.List.{list_any}
use Rattle.std.specs.Str.{bytes_eq}
use Rattle.wq_follow.specs.Followed.{subscription_data}
use Rattle.wq_follow.specs.Subscription.{SubscriptionData}
use Rattle.wq_session.specs.Limit.{max_subscriptions}
use Rattle.wq_session.specs.declared.session.Session.{Session}

-- the subscriptions of a session
abbrev pub follows_of : Session → List SubscriptionData
follows_of session = map subscription_data session.subscriptions.items

-- whether a subscription has this root and name
abbrev pub is_called : ℕ → List ℕ → SubscriptionData → Bool
is_called number name s = nat_eq number s.number && bytes_eq name s.name

-- whether one of them has this root and name
abbrev pub has_called : ℕ → List ℕ → List SubscriptionData → Bool
has_called number name follows = list_any (is_called number name) follows

-- whether there is no room for one of this name: it would be one more than a session may have
abbrev pub has_no_room : ℕ → List ℕ → List SubscriptionData → Bool
has_no_room number name follows =
    not (has_called number name follows) && nat_le max_subscriptions (length follows)

-- the list with one more subscription: in the place of the one with the same root and name, or at
-- the end
abbrev pub with_subscription : SubscriptionData → List SubscriptionData → List SubscriptionData
with_subscription s [] = s ∷ []
with_subscription s (first ∷ later) =
    if is_called s.number s.name first then s ∷ later else first ∷ with_subscription s later

-- the list without the subscription of this root and name
abbrev pub without_called : ℕ → List ℕ → List SubscriptionData → List SubscriptionData
without_called number name follows = filter (λ s. not (is_called number name s)) follows
