-- The clients of a world that have subscriptions, and the numbers of the roots of these.
-- It is this server's own.
use Rattle.std.specs.Prelude.{ℕ, ℤ, Bool, not, nat_eq, nat_lt, if◌then◌else◌, List, [], ◌∷◌, filter}
use Rattle.std.specs.Ordering.{int_eq}
use Rattle.wq_follow.specs.Subscription.{SubscriptionData}
use Rattle.wq_session.specs.Followed.{follows_of}
use Rattle.wq_replay.specs.declared.client.Client.{Client}

-- whether this is the client of this number
abbrev pub is_of : ℤ → Client → Bool
is_of number client = int_eq number client.number

-- the subscriptions of the client of this number
abbrev pub follows_in : ℤ → List Client → List SubscriptionData
follows_in number [] = []
follows_in number (client ∷ later) =
    if is_of number client then follows_of client.session else follows_in number later

-- the other clients
abbrev pub other_clients : ℤ → List Client → List Client
other_clients number = filter (λ client. not (is_of number client))

-- ascending numbers with this one, which is added if it is not among them
abbrev pub with_root_number : ℕ → List ℕ → List ℕ
with_root_number number [] = number ∷ []
with_root_number number (first ∷ later) =
    if nat_lt first number then first ∷ with_root_number number later
    else if nat_eq number first then first ∷ later
    else number ∷ first ∷ later

-- such numbers, with the numbers of the roots of these subscriptions
abbrev pub numbers_from : List ℕ → List SubscriptionData → List ℕ
numbers_from numbers [] = numbers
numbers_from numbers (s ∷ later) = numbers_from (with_root_number s.number numbers) later

-- the numbers of the roots of these subscriptions, each once, ascending
abbrev pub root_numbers_of : List SubscriptionData → List ℕ
root_numbers_of = numbers_from []
