-- The subscriptions of a session, as lists in which each is known by its root and its name.
use Rattle.std.proofs.Common.{◌≡◌, ℕ, Bool, true, false, List, [], ◌∷◌, ◌++◌, map, None, Some, Option, if◌then◌else◌, refl, ap, slice_set, position, ◌∙◌}
use Rattle.wq_follow.specs.Followed.{subscription_data}
use Rattle.wq_follow.specs.Subscription.{SubscriptionData}
use Rattle.wq_follow.specs.declared.subscription.Subscription.{Subscription}
use Rattle.wq_session.specs.Followed.{is_called, with_subscription}
use Rattle.wq_session.proofs.Called.{position_made, put_unplaced, replaced, set_made, set_placed}

-- with a subscription, as one that replaces the first that passes a test
as_replaced : (s : SubscriptionData) (follows : List SubscriptionData)
    → replaced s (is_called s.number s.name) follows ≡ with_subscription s follows
unfolding replaced
as_replaced s [] = refl
as_replaced s (first ∷ later) = by (is_called s.number s.name first) (as_replaced s later)
  where
    by : (b : Bool) → replaced s (is_called s.number s.name) later ≡ with_subscription s later
        → (if b then s ∷ later else first ∷ replaced s (is_called s.number s.name) later)
        ≡ (if b then s ∷ later else first ∷ with_subscription s later)
    by true rest = refl
    by false rest = ap (λ follows. first ∷ follows) rest

-- a place that was found among the subscriptions is a place among their data
pub found_as : (items : List Subscription) (number : ℕ) (name : List ℕ) (s : Subscription) (result : Option ℕ)
    → number ≡ s.number → name ≡ s.name → result ≡ position (λ x. is_called number name (subscription_data x)) items
    → result ≡ position (is_called s.number s.name) (map subscription_data items)
found_as items number name s result is_number is_name is =
    is ∙ position_made subscription_data (is_called number name) items
    ∙ ap (λ n. position (is_called n name) (map subscription_data items)) is_number
    ∙ ap (λ n. position (is_called s.number n) (map subscription_data items)) is_name

-- one is put in the place of the one with the same root and name
pub put_there : (items : List Subscription) (s : Subscription) (place : ℕ)
    → position (is_called s.number s.name) (map subscription_data items) ≡ Some place
    → map subscription_data (slice_set items place s) ≡ with_subscription (subscription_data s) (map subscription_data items)
put_there items s place is =
    set_made subscription_data items place s
    ∙ set_placed (subscription_data s) (is_called s.number s.name) (map subscription_data items) place is
    ∙ as_replaced (subscription_data s) (map subscription_data items)

-- or at the end
pub put_behind : (follows : List SubscriptionData) (s : SubscriptionData)
    → position (is_called s.number s.name) follows ≡ None → follows ++ s ∷ [] ≡ with_subscription s follows
put_behind follows s is = put_unplaced s (is_called s.number s.name) follows is ∙ as_replaced s follows
