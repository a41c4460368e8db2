-- A change of the subscriptions of one client.
-- It is this server's own.
use Rattle.std.specs.Prelude.{◌≡◌, ℤ, List, [], ◌∷◌}
use Rattle.wq_follow.specs.Subscription.{SubscriptionData}
use Rattle.wq_session.specs.Followed.{follows_of}
use Rattle.wq_session.specs.declared.session.Session.{Session}
use Rattle.wq_replay.specs.Client.{follows_in}
use Rattle.wq_replay.specs.Gets.{with_follows}
use Rattle.wq_replay.specs.declared.client.Client.{Client}

-- the subscriptions of a client are these now, and the other clients keep theirs
abbrev pub FollowsNow : ℤ → List SubscriptionData → List Client → List Client → Type 0
FollowsNow number left before after = (other : ℤ)
    → follows_in other after ≡ with_follows number left (λ o. follows_in o before) other

-- a client with this session
abbrev pub client_with : ℤ → Session → Client
client_with number session = record { number = number; session = session }

-- the client with these subscriptions, or no client if there are none
abbrev pub kept_with : ℤ → Session → List SubscriptionData → List Client
kept_with number session [] = []
kept_with number session (s ∷ later) = client_with number session ∷ []

-- the client with this session, if it has subscriptions
abbrev pub kept_client : ℤ → Session → List Client
kept_client number session = kept_with number session (follows_of session)
