-- The account of a subscription of a client: the views at which it was told, and the lists that were sent.
use Rattle.std.proofs.Common.{◌≡◌, ℕ, ℤ, Bool, true, false, cond, List, [], ◌∷◌, ◌++◌, Option, Some, Ok, refl, ap, sym, subst, ◌∙◌, append-nil, append_assoc}
use mathlib.Core.List.{IsPrefix}
use Rattle.serde_json.specs.Data.{Data}
use Rattle.serde_json.specs.Written.{compact_text}
use Rattle.wq_clock.specs.Run.{RunData, instance_of}
use Rattle.wq_clock.specs.declared.bound.Bound.TheVariants.{Tick}
use Rattle.wq_code.specs.declared.raw.Raw.{Raw}
use Rattle.wq_follow.specs.Batch.{FollowerData, is_told, last_or, listing, nothing, polled, told_up_to, untold}
use Rattle.wq_follow.specs.Interval.{ToldData}
use Rattle.wq_follow.specs.Missing.{IsOf, end_of}
use Rattle.wq_follow.specs.Subscription.{SubscriptionData, caught_up, next_list, subscribed, text_if_any}
use Rattle.wq_live.specs.Event.{passes_over}
use Rattle.wq_live.specs.declared.event.RootEvent.{RootEvent}
use Rattle.wq_reply.specs.Following.{list_data, with_bound}
use Rattle.wq_reply.specs.Listing.{files_of}
use Rattle.wq_query.specs.Query.{QueryData}
use Rattle.wq_reply.specs.Plan.{PlanData}
use Rattle.wq_query.specs.Subscribed.{subscribes as subscription_of}
use Rattle.wq_replay.specs.Playing.{sent_list}
use Rattle.wq_replay.specs.World.{SentData}
use Rattle.wq_session.specs.Moment.{listed_once}
use Rattle.wq_session.specs.Subscribe.{first_plan}
use Rattle.wq_view.specs.History.{History}
use Rattle.wq_view.specs.View.{IsViewOf, ViewData}
use Rattle.wq_headline.specs.Followers.{AreViewsOf, list_now, list_told, lists_told, told_since}
use Rattle.wq_headline.proofs.Growth.{passes_go_on}
use Rattle.wq_headline.proofs.Sent.{Sent, sent_before, sent_both}

-- the facts of an account that a happening leaves or adds to
pub record Account (run : RunData) (client : ℤ) (events : List RootEvent) (sent : List SentData) (s : SubscriptionData) : Type 0 where
  pub object : Data
  pub query : QueryData
  pub program : Option Raw
  pub asks : subscription_of (instance_of run s.number) object ≡ Ok query
  pub first : ViewData
  pub views : List ViewData
  pub are : AreViewsOf (passes_over s.number events) (first ∷ views)
  pub sends : Sent (sent_list client)
      (compact_text (list_now run s (first_plan query program) first (files_of (first_plan query program) first.records))
      ∷ lists_told run s (first_plan query program) (told_since (first_plan query program) first.tick views)) sent
  pub next : s.follower ≡ told_up_to (end_of first.tick (told_since (first_plan query program) first.tick views)) (untold (first_plan query program))

-- views of a root are views of it in a longer history
is_of_longer : (history longer : History) (view : ViewData) → IsPrefix history longer → IsOf history view → IsOf longer view
is_of_longer history longer view (more, grown) (early, (rest, is), viewed) =
    (early, (rest ++ more, sym (append_assoc early rest more) ∙ ap (λ h. h ++ more) is ∙ grown), viewed)

pub are_longer : (history longer : History) (views : List ViewData) → IsPrefix history longer → AreViewsOf history views → AreViewsOf longer views
are_longer history longer [] grown are = tt
are_longer history longer (view ∷ views) grown (is, are) = (is_of_longer history longer view grown is, are_longer history longer views grown are)

pub are_more : (history : History) (views : List ViewData) (view : ViewData) → AreViewsOf history views → IsOf history view → AreViewsOf history (views ++ view ∷ [])
are_more history [] view are is = (is, tt)
are_more history (v ∷ views) view (first, are) is = (first, are_more history views view are is)

-- the view of a whole history
pub of_whole : (history : History) (view : ViewData) → IsViewOf history view → IsOf history view
of_whole history view viewed = (history, ([], append-nil history), viewed)

-- one more batch
abbrev pub one_more : PlanData → ℕ → List ViewData → ViewData → ToldData
one_more plan tick views view = record {
  batch = polled (told_up_to (end_of tick (told_since plan tick views)) (untold plan)) view;
  view = view;
}

pub told_more : (plan : PlanData) (tick : ℕ) (views : List ViewData) (view : ViewData)
    → told_since plan tick (views ++ view ∷ []) ≡ told_since plan tick views ++ one_more plan tick views view ∷ []
told_more plan tick [] view = refl
told_more plan tick (v ∷ views) view =
    let batch = polled (told_up_to tick (untold plan)) v in
    ap (λ l. record { batch = batch; view = v } ∷ l) (told_more plan batch.now views view)

-- the last batch has the end
pub end_more : (tick : ℕ) (told : List ToldData) (t : ToldData) → end_of tick (told ++ t ∷ []) ≡ (t.batch).now
end_more tick [] t = refl
end_more tick (first ∷ told) t = end_more (first.batch).now told t

-- a batch after one that ended at a tick begins there
begins_there : (plan : PlanData) (tick : ℕ) (view : ViewData) → (polled (told_up_to tick (untold plan)) view).from ≡ Tick tick
begins_there plan tick view = by (is_told (Some tick) view.tick)
  where
    by : (b : Bool) → (cond b (nothing (with_bound (Tick tick) plan) (last_or view.tick (Some tick))) (listing (with_bound (Tick tick) plan) view)).from ≡ Tick tick
    by true = refl
    by false = refl

module _ (run : RunData) (client : ℤ) where
  lists_more : (s : SubscriptionData) (plan : PlanData) (told : List ToldData) (t : ToldData) → lists_told run s plan (told ++ t ∷ []) ≡ lists_told run s plan told ++ list_told run s plan t
  lists_more s plan [] t = append-nil (list_told run s plan t)
  lists_more s plan (first ∷ told) t =
      ap (λ l. list_told run s plan first ++ l) (lists_more s plan told t)
      ∙ sym (append_assoc (list_told run s plan first) (lists_told run s plan told) (list_told run s plan t))

  -- the lists name the subscription by what a batch leaves
  lists_stay : (s : SubscriptionData) (view : ViewData) (plan : PlanData) (told : List ToldData) → lists_told run (caught_up view s) plan told ≡ lists_told run s plan told
  lists_stay s view plan [] = refl
  lists_stay s view plan (first ∷ told) = ap (λ l. list_told run s plan first ++ l) (lists_stay s view plan told)

  -- more events and more lines leave an account
  pub grown : (events later : List RootEvent) (said sent : List SentData) (s : SubscriptionData) → IsPrefix events later → Account run client events said s
      → Account run client later (said ++ sent) s
  grown events later said sent s goes a = record {
    object = a.object;
    query = a.query;
    program = a.program;
    asks = a.asks;
    first = a.first;
    views = a.views;
    are = are_longer (passes_over s.number events) (passes_over s.number later) (a.first ∷ a.views) (passes_go_on s.number events later goes) a.are;
    sends = sent_before (sent_list client)
        (compact_text (list_now run s (first_plan a.query a.program) a.first (files_of (first_plan a.query a.program) (a.first).records))
        ∷ lists_told run s (first_plan a.query a.program) (told_since (first_plan a.query a.program) (a.first).tick a.views))
        said sent a.sends;
    next = a.next;
  }

  -- a batch is told
  module _ (events : List RootEvent) (said sent : List SentData) (s : SubscriptionData) (view : ViewData) (a : Account run client events said s) where
    abbrev plan : PlanData
    plan = first_plan a.query a.program

    abbrev told : List ToldData
    told = told_since plan (a.first).tick a.views

    abbrev newest : ToldData
    newest = one_more plan (a.first).tick a.views view

    abbrev list_by : FollowerData → List (List ℕ)
    list_by f = listed_once (text_if_any (polled f view).files (list_data s.root s.name f.plan (instance_of run s.number) view.tick (polled f view).files))

    more : told_since plan (a.first).tick (a.views ++ view ∷ []) ≡ told ++ newest ∷ []
    more = told_more plan (a.first).tick a.views view

    own : list_told run s plan newest ≡ listed_once (next_list (instance_of run s.number) view s)
    own =
        ap (λ bound. listed_once (text_if_any (newest.batch).files (list_now run s (with_bound bound plan) view (newest.batch).files)))
        (begins_there plan (end_of (a.first).tick told) view)
        ∙ ap list_by (sym a.next)

    lists : lists_told run (caught_up view s) plan (told_since plan (a.first).tick (a.views ++ view ∷ []))
        ≡ lists_told run s plan told ++ listed_once (next_list (instance_of run s.number) view s)
    lists =
        lists_stay s view plan (told_since plan (a.first).tick (a.views ++ view ∷ []))
        ∙ ap (lists_told run s plan) more ∙ lists_more s plan told newest
        ∙ ap (λ l. lists_told run s plan told ++ l) own

    abbrev first_list : List ℕ
    first_list = compact_text (list_now run s plan a.first (files_of plan (a.first).records))

    pub caught : IsViewOf (passes_over s.number events) view → Sent (sent_list client) (listed_once (next_list (instance_of run s.number) view s)) sent
        → Account run client events (said ++ sent) (caught_up view s)
    caught viewed were = record {
      object = a.object;
      query = a.query;
      program = a.program;
      asks = a.asks;
      first = a.first;
      views = a.views ++ view ∷ [];
      are = ((a.are).0, are_more (passes_over s.number events) a.views view (a.are).1 (of_whole (passes_over s.number events) view viewed));
      sends = subst (λ l. Sent (sent_list client) (first_list ∷ l) (said ++ sent)) (sym lists)
          (sent_both (sent_list client) (first_list ∷ lists_told run s plan told) (listed_once (next_list (instance_of run s.number) view s)) said sent a.sends were);
      next = ap (λ f. told_up_to (polled f view).now f) a.next
          ∙ ap (λ tick. told_up_to tick (untold plan)) (sym (ap (end_of (a.first).tick) more ∙ end_more (a.first).tick told newest));
    }

  -- a subscription begins
  pub begun_account : (events : List RootEvent) (said sent : List SentData) (name root : List ℕ) (number : ℕ) (d : Data) (query : QueryData) (program : Option Raw) (view : ViewData)
      → subscription_of (instance_of run number) d ≡ Ok query → IsViewOf (passes_over number events) view
      → Sent (sent_list client) (compact_text (list_now run (subscribed name root number (first_plan query program)) (first_plan query program) view (files_of (first_plan query program) view.records)) ∷ []) (said ++ sent)
      → Account run client events (said ++ sent) (caught_up view (subscribed name root number (first_plan query program)))
  begun_account events said sent name root number d query program view asks viewed were = record {
    object = d;
    query = query;
    program = program;
    asks = asks;
    first = view;
    views = [];
    are = (of_whole (passes_over number events) view viewed, tt);
    sends = were;
    next = refl;
  }
