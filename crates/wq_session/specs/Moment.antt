-- An idle moment of a root: the server tells each subscription of it the changes since its last
-- list, or that the root is no longer watched, which ends it.
-- From Watchman's documentation of `subscribe`. A root with another number is another root: this is
-- this server's own.
use Rattle.std.specs.Prelude.{◌≡◌, ◌+◌, ℕ, true, false, nat_eq, List, [], ◌∷◌, ◌++◌, length}
use Rattle.std.specs.Prelude.{Option, Some, None, option_map, Result, Ok, Err, if◌then◌else◌}
use Rattle.std.specs.Borrow.{Bor}
use Rattle.std.specs.declared.alloc.AllocError.{AllocError}
use Rattle.serde_json.specs.Written.{compact_text}
use Rattle.wq_clock.specs.Instance.{InstanceData, instance_data}
use Rattle.wq_clock.specs.declared.instance.Instance.{Instance}
use Rattle.wq_follow.specs.Batch.{is_told}
use Rattle.wq_follow.specs.Subscription.{SubscriptionData, canceled_data, caught_up, next_list}
use Rattle.wq_view.specs.View.{ViewData}
use Rattle.wq_session.specs.Out.{OutData, tells_lists}
use Rattle.wq_crawl.specs.At.{AtData}

-- a root that is shown: its place, and its view
abbrev pub Shown : Type 0
Shown = Option (InstanceData × ViewData)

-- the root that is looked at, if it is watched
abbrev pub shown_in : Option AtData → Shown
shown_in None = None
shown_in (Some at) = option_map (λ view. (at.instance, view)) at.view

-- the list that a subscription is given, and the subscription that is left
pub record ToldListData : Type 0 where
  pub lists : List (List ℕ)
  pub left : List SubscriptionData

-- a list, if there is one
abbrev pub listed_once : Option (List ℕ) → List (List ℕ)
listed_once None = []
listed_once (Some list) = list ∷ []

-- its list at the view of its root, or the notice that the root is no longer watched
abbrev pub told_list_at : Shown → SubscriptionData → ToldListData
told_list_at None s = record { lists = compact_text (canceled_data s.root s.name) ∷ []; left = [] }
told_list_at (Some (instance, view)) s = record {
  lists = listed_once (next_list instance view s);
  left = caught_up view s ∷ [];
}

-- its list at an idle moment of the root of this number; it gets nothing if its root is another
abbrev pub told_of : ℕ → Shown → SubscriptionData → ToldListData
told_of root shown s =
    if nat_eq root s.number then told_list_at shown s else record { lists = []; left = s ∷ [] }

-- the lists of these, one after the other
abbrev pub told_lists_of : ℕ → Shown → List SubscriptionData → List (List ℕ)
told_lists_of root shown [] = []
told_lists_of root shown (s ∷ later) =
    (told_of root shown s).lists ++ told_lists_of root shown later

-- the subscriptions that are left
abbrev pub left_of : ℕ → Shown → List SubscriptionData → List SubscriptionData
left_of root shown [] = []
left_of root shown (s ∷ later) = (told_of root shown s).left ++ left_of root shown later

-- memory may run out for a subscription at a view only if its last list ended before it
abbrev pub MayRunOut : Shown → SubscriptionData → Type 0
MayRunOut None s = Unit {0}
MayRunOut (Some (instance, view)) s = is_told (s.follower).last view.tick ≡ false

-- memory may run out for a subscription only if there is something to tell it
abbrev pub MayRunOutAt : ℕ → Shown → SubscriptionData → Type 0
MayRunOutAt root shown s = (nat_eq root s.number ≡ true) × MayRunOut shown s

-- the server polls none of these subscriptions: there are none, or memory ran out at the first of
-- them
abbrev pub AreLeft : ℕ → Shown → List SubscriptionData → Type 0
AreLeft root shown [] = Unit {0}
AreLeft root shown (s ∷ later) = MayRunOutAt root shown s

-- an idle moment: the first subscriptions get their lists, and the others are as before
pub record Idles (root : ℕ) (at : Option AtData) (follows : List SubscriptionData) (out : OutData)
    (after : List SubscriptionData) : Type 0 where
  pub polled : List SubscriptionData
  pub later : List SubscriptionData
  pub parts : follows ≡ polled ++ later
  pub gives : out ≡ tells_lists (told_lists_of root (shown_in at) polled)
  pub left : after ≡ left_of root (shown_in at) polled ++ later
  pub short : AreLeft root (shown_in at) later

-- one subscription is told, between those that were told before it and those to come. Its list is
-- put to the lists, and the subscription that is left to the front; or memory ran out, and nothing
-- changed
abbrev pub TellsOne : ℕ → Shown → List SubscriptionData → SubscriptionData
    → List SubscriptionData → List (List ℕ) → Result ℕ AllocError → List SubscriptionData
    → List (List ℕ) → Type 0
TellsOne root shown front s later lists (Ok next) after told =
    (after ≡ front ++ (told_of root shown s).left ++ later)
    × (told ≡ lists ++ (told_of root shown s).lists)
    × (next ≡ length front + length (told_of root shown s).left)
TellsOne root shown front s later lists (Err short) after told =
    (after ≡ front ++ s ∷ later) × (told ≡ lists) × MayRunOutAt root shown s

-- the meaning of the code's root that is shown
abbrev pub shown_data : Option (Instance × Bor ViewData) → Shown
shown_data None = None
shown_data (Some (instance, view)) = Some (instance_data instance, view.now)
