-- A subscription: the lists that a client is sent, and the line that ends it.
-- From Watchman's documentation of `subscribe`.
use Rattle.std.specs.Prelude.{ℕ, true, List, [], ◌∷◌, codes, Option, Some, None}
use Rattle.serde_json.specs.Data.{Data, boolean, string, object, no_members, member}
use Rattle.serde_json.specs.Written.{compact_text}
use Rattle.wq_base.specs.Version.{version}
use Rattle.wq_clock.specs.Instance.{InstanceData}
use Rattle.wq_reply.specs.Following.{list_data}
use Rattle.wq_reply.specs.Plan.{PlanData}
use Rattle.wq_record.specs.RecordData.{RecordData}
use Rattle.wq_view.specs.View.{ViewData}
use Rattle.wq_follow.specs.Batch.{FollowerData, polled, told_up_to, untold}

-- a subscription: its name, the text of its root, the number that the root has, and its follower
pub record SubscriptionData : Type 0 where
  pub name : List ℕ
  pub root : List ℕ
  pub number : ℕ
  pub follower : FollowerData

-- a new subscription with this plan
abbrev pub subscribed : List ℕ → List ℕ → ℕ → PlanData → SubscriptionData
subscribed name root number plan =
    record { name = name; root = root; number = number; follower = untold plan }

-- a subscription, once a batch that ends at this tick was told
abbrev pub sent_up_to : ℕ → SubscriptionData → SubscriptionData
sent_up_to tick s = record {
  name = s.name;
  root = s.root;
  number = s.number;
  follower = told_up_to tick s.follower;
}

-- a subscription, once its batch at a view was told
abbrev pub caught_up : ViewData → SubscriptionData → SubscriptionData
caught_up view s = sent_up_to (polled s.follower view).now s

-- the list of its batch at a view
abbrev pub list_of : InstanceData → ViewData → SubscriptionData → Data
list_of instance view s =
    list_data s.root s.name (s.follower).plan instance view.tick (polled s.follower view).files

-- the text of a list, if it has files
abbrev pub text_if_any : List RecordData → Data → Option (List ℕ)
text_if_any [] list = None
text_if_any (file ∷ files) list = Some (compact_text list)

-- the list that it sends at an idle moment, at a view: that of its batch, if the batch has files
abbrev pub next_list : InstanceData → ViewData → SubscriptionData → Option (List ℕ)
next_list instance view s =
    text_if_any (polled s.follower view).files (list_of instance view s)

-- the line that ends a subscription of this root and name, when the root is no longer watched
abbrev pub canceled_data : List ℕ → List ℕ → Data
canceled_data root name =
    object (member (codes "canceled") (boolean true)
    (member (codes "root") (string root)
    (member (codes "subscription") (string name)
    (member (codes "unilateral") (boolean true)
    (member (codes "version") (string version) no_members)))))
