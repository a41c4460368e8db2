-- Each subscription of a client in a world has an account.
use Rattle.std.proofs.Common.{◌≡◌, ℕ, ℤ, Bool, true, false, not, cond, nat_eq, List, [], ◌∷◌, ◌++◌, map, Option, Some, None, option_map, Result, Ok, Err, inl, inr, refl, ap, sym, subst, ◌∙◌, append-nil, append_assoc, int_eq, find, is_some}
use mathlib.Core.List.{IsPrefix}
use Rattle.std.specs.List.{AllByRecursion}
use Rattle.std.specs.Option.{option_map_or}
use Rattle.std.proofs.lemmas.Bool.Decides.{Decides-int_eq}
use Rattle.std.proofs.lemmas.List.Elements.{All-from_recursion}
use Rattle.std.proofs.lemmas.Option.{same_Some}
use Rattle.serde_json.specs.Data.{Data}
use Rattle.serde_json.specs.Written.{compact_text}
use Rattle.wq_crawl.specs.Need.{NeedData, crawl as crawl_of, look, none, unwatch, watch}
use Rattle.wq_session.specs.Need.{need_of}
use Rattle.wq_session.specs.Out.{OutData, refuses, silence}
use Rattle.wq_ask.specs.declared.ask.Ask.{Ask}
use Rattle.wq_ask.specs.declared.refusal.Refusal.TheVariants.{TooManySubscriptions}
use Rattle.wq_clock.specs.Run.{RunData, instance_of}
use Rattle.wq_crawl.specs.declared.fault.CrawlFault.{CrawlFault}
use Rattle.wq_crawl.specs.declared.place.Place.{Place}
use Rattle.wq_crawl.specs.declared.place.Place.TheVariants.{Shown as IsThere, Full, Free}
use Rattle.wq_follow.specs.Interval.{HasNoGenerators, HaveReached, IntervalsAdjoin}
use Rattle.wq_follow.specs.Missing.{AreOf, NothingIsMissed, ViewsAreReached}
use Rattle.wq_follow.specs.Batch.{untold}
use Rattle.wq_follow.specs.Subscription.{SubscriptionData, caught_up, list_of, next_list, subscribed}
use Rattle.wq_live.specs.Event.{number_of, passes_over}
use Rattle.wq_live.specs.Table.{IsTableOf, RootView, TableData, has_number, has_text, root_by_text}
use Rattle.wq_live.specs.declared.event.RootEvent.{RootEvent}
use Rattle.wq_live.proofs.Roots.{found_number}
use Rattle.wq_code.specs.declared.raw.Raw.{Raw}
use Rattle.wq_query.specs.Query.{QueryData}
use Rattle.wq_reply.specs.Plan.{PlanData}
use Rattle.wq_query.specs.Subscribed.{SubscriptionsArePlain, subscribes as subscription_of}
use Rattle.wq_crawl.specs.Meets.{MeetsAt, Meets, MeetsFor, at_root, ending, fault_for, looked, numbered}
use Rattle.wq_replay.specs.Gets.{kept, with_follows}
use Rattle.wq_replay.specs.Playing.{Happens, Runs, sent_list, sent_to}
use Rattle.wq_replay.specs.Rounds.{RoundsFound}
use Rattle.wq_crawl.specs.Meets.{RefusedData}
use Rattle.wq_replay.specs.World.{Crawls, CrawlsAt, HappeningData, SentData, Starts, WatchesAt, WorldData, asked, crawl, ended, idle, new_world, round, watching}
use Rattle.wq_session.specs.Answer.{AnswersAsk, DoneData, finished, following, giving, subscribing_at, subscribing_by}
use Rattle.wq_crawl.specs.At.{AtData}
use Rattle.wq_session.specs.At.{ShelfNow}
use Rattle.wq_session.specs.Begun.{taken_ask}
use Rattle.wq_session.specs.Desk.{StandData, stand}
use Rattle.wq_session.specs.Followed.{has_no_room, is_called, with_subscription, without_called}
use Rattle.wq_session.specs.Moment.{Shown, left_of, listed_once, shown_in, told_list_at, told_lists_of, told_of}
use Rattle.wq_session.specs.Subscribe.{first_plan}
use Rattle.wq_crawl.specs.Views.{ReadyData}
use Rattle.wq_session.specs.Desk.{Replies}
use Rattle.wq_session.specs.Work.{WorkData, begins, drops, evaluates, prints, says}
use Rattle.wq_view.specs.History.{History}
use Rattle.wq_view.specs.Listing.{PassData}
use Rattle.wq_view.specs.View.{IsViewOf, ViewData}
use Rattle.wq_headline.specs.Followers.{AreViewsOf, IsFollowed, SubscriptionsAreExact, telling, told_since}
use Rattle.wq_headline.proofs.Accounts.{Account, begun_account, caught, grown}
use Rattle.wq_headline.proofs.Begins.{BeginsSo, begins_so}
use Rattle.wq_headline.proofs.Growth.{begins_itself, happens, meets}
use Rattle.wq_headline.proofs.Lists.{found_view, shown_by}
use Rattle.wq_headline.proofs.Moments.{IsShownAs, same_number, told_if}
use Rattle.wq_headline.proofs.Sent.{SaysAll, Sent, says_first, says_later, sent_after}

-- a subscription that begins
abbrev new_one : AtData → List ℕ → List ℕ → QueryData → Option Raw → SubscriptionData
new_one here name root query program = subscribed name root (here.instance).root (first_plan query program)

-- an ask is ready at this
abbrev is_ready : Option AtData → ReadyData
is_ready at = Ok at

-- what is shown of a root in a world
pub world_shows : (run : RunData) (number : ℕ) (events : List RootEvent) (table : TableData) → IsTableOf events table
    → IsShownAs run number events (shown_in (numbered number run table))
world_shows run number events table is = by (find (has_number number) table.roots) refl
  where
    by : (found : Option RootView) → find (has_number number) table.roots ≡ found → IsShownAs run number events (shown_in (option_map (at_root run) found))
    by None absent = shown_by events table is number ∙ ap is_some absent
    by (Some r) found =
        let same = found_number number table.roots r found in
        (ap (instance_of run) same, subst (λ n. IsViewOf (passes_over n events) r.view) same (found_view events table is (has_number number) r found))

module _ (run : RunData) (client : ℤ) where
  -- all subscriptions have accounts
  abbrev Accounts : List RootEvent → List SentData → List SubscriptionData → Type 0
  Accounts events sent follows = AllByRecursion (Account run client events sent) follows

  all_grown : (events later : List RootEvent) (said sent : List SentData) (follows : List SubscriptionData) → IsPrefix events later → Accounts events said follows
      → Accounts later (said ++ sent) follows
  all_grown events later said sent [] goes all = tt
  all_grown events later said sent (s ∷ follows) goes all = (grown run client events later said sent s goes all.0, all_grown events later said sent follows goes all.1)

  -- an idle moment
  module _ (number : ℕ) (events : List RootEvent) (said sent : List SentData) where
    one_told : (shown : Shown) → IsShownAs run number events shown → (s : SubscriptionData) → s.number ≡ number → Account run client events said s
        → (lists : List (List ℕ)) → SaysAll (sent_list client) ((told_list_at shown s).lists ++ lists) sent → (later : List SubscriptionData)
        → Accounts events (said ++ sent) later → Accounts events (said ++ sent) ((told_list_at shown s).left ++ later)
    one_told None is s same a lists into later rest = rest
    one_told (Some (instance, view)) (of_root, viewed) s same a lists into later rest = (
      caught run client events said sent s view a
          (subst (λ n. IsViewOf (passes_over n events) view) (sym same) viewed)
          (subst (λ i. Sent (sent_list client) (listed_once (next_list i view s)) sent) (of_root ∙ ap (instance_of run) (sym same))
          (says_first (sent_list client) (listed_once (next_list instance view s)) lists sent into)),
      rest,
    )

    all_told : (shown : Shown) → IsShownAs run number events shown → (polled later : List SubscriptionData) → Accounts events said (polled ++ later)
        → SaysAll (sent_list client) (told_lists_of number shown polled) sent → Accounts events (said ++ sent) (left_of number shown polled ++ later)
    all_told shown is [] later all into = all_grown events events said sent later (begins_itself events events refl) all
    all_told shown is (s ∷ polled) later (a, all) into =
        subst (Accounts events (said ++ sent)) (sym (append_assoc (told_of number shown s).left (left_of number shown polled) later))
        (by (nat_eq number s.number) refl (all_told shown is polled later all) into)
      where
        by : (b : Bool) → nat_eq number s.number ≡ b
            → (SaysAll (sent_list client) (told_lists_of number shown polled) sent → Accounts events (said ++ sent) (left_of number shown polled ++ later))
            → SaysAll (sent_list client) ((told_if shown s b).lists ++ told_lists_of number shown polled) sent
            → Accounts events (said ++ sent) ((told_if shown s b).left ++ (left_of number shown polled ++ later))
        by true same rest into =
            one_told shown is s (same_number number s.number same) a (told_lists_of number shown polled) into (left_of number shown polled ++ later)
            (rest (says_later (sent_list client) (told_list_at shown s).lists (told_lists_of number shown polled) sent into))
        by false other rest into = (grown run client events events said sent s (begins_itself events events refl) a, rest into)

  -- the root that an ask is answered at, if it shows a view
  abbrev IsSeen : List RootEvent → Option AtData → Type 0
  IsSeen events None = Unit {0}
  IsSeen events (Some at) = (view : ViewData) → at.view ≡ Some view
      → (at.instance ≡ instance_of run (at.instance).root) × IsViewOf (passes_over (at.instance).root events) view

  root_seen : (text : List ℕ) (events : List RootEvent) (table : TableData) → IsTableOf events table → IsSeen events (option_map (at_root run) (root_by_text text table))
  root_seen text events table is = by (root_by_text text table) refl
    where
      by : (found : Option RootView) → root_by_text text table ≡ found → IsSeen events (option_map (at_root run) found)
      by None absent = tt
      by (Some r) found = λ view shown. (refl, subst (IsViewOf (passes_over r.number events)) (same_Some _ _ shown) (found_view events table is (has_text text) r found))

  looked_seen : (need : NeedData) (events : List RootEvent) (table : TableData) → IsTableOf events table → IsSeen events (looked need run table)
  looked_seen (look root) events table is = root_seen root events table is
  looked_seen (crawl_of root) events table is = root_seen root events table is
  looked_seen (watch root) events table is = root_seen root events table is
  looked_seen (unwatch root) events table is = tt
  looked_seen none events table is = tt

  ready_seen : (need : NeedData) (refused : Option RefusedData) (events : List RootEvent) (at : Option AtData) (later : List RootEvent)
      → Meets need run refused events (Ok at) later → IsSeen later at
  ready_seen need refused events at later (table, is, met) = unless (fault_for need table refused) met
    where
      ok_same : {x y : Option AtData} → is_ready x ≡ is_ready y → x ≡ y
      ok_same h = cc h

      of_number : (number : Option ℕ) → MeetsAt number need run table events (Ok at) later → IsSeen later at
      of_number None (so, same) = subst (λ a. IsSeen later a) (sym (ok_same so)) (subst (λ e. IsSeen e (looked need run table)) (sym same) (looked_seen need events table is))
      of_number (Some number) (inl (so, ends)) = subst (λ a. IsSeen later a) (sym (ok_same so)) (λ view shown. absurd cc)
      of_number (Some number) (inr (so, same)) = absurd cc

      unless : (fault : Option CrawlFault) → MeetsFor fault need run table events (Ok at) later → IsSeen later at
      unless (Some fault) (so, same) = absurd cc
      unless None met = of_number (ending need table) met

  -- the subscriptions after one began, or ended
  with_one : (events : List RootEvent) (sent : List SentData) (s : SubscriptionData) (follows : List SubscriptionData) → Account run client events sent s
      → Accounts events sent follows → Accounts events sent (with_subscription s follows)
  with_one events sent s [] a all = (a, tt)
  with_one events sent s (first ∷ follows) a all = by (is_called s.number s.name first) (with_one events sent s follows a all.1)
    where
      by : (b : Bool) → Accounts events sent (with_subscription s follows) → Accounts events sent (cond b (s ∷ follows) (first ∷ with_subscription s follows))
      by true rest = (a, all.1)
      by false rest = (all.0, rest)

  without_one : (events : List RootEvent) (sent : List SentData) (number : ℕ) (name : List ℕ) (follows : List SubscriptionData) → Accounts events sent follows
      → Accounts events sent (without_called number name follows)
  without_one events sent number name [] all = tt
  without_one events sent number name (first ∷ follows) all = by (is_called number name first) (without_one events sent number name follows all.1)
    where
      by : (b : Bool) → Accounts events sent (without_called number name follows)
          → Accounts events sent (cond (not b) (first ∷ without_called number name follows) (without_called number name follows))
      by true rest = rest
      by false rest = (all.0, rest)

  -- work that is finished
  module _ (events : List RootEvent) (at : Option AtData) (seen : IsSeen events at) (said : List SentData) (out : OutData) (follows : List SubscriptionData)
      (all : Accounts events (said ++ sent_to client out) follows) where
    abbrev Done : DoneData → Type 0
    Done done = out ≡ done.out → Accounts events (said ++ sent_to client out) done.follows

    begun_at : (here : AtData) (name root : List ℕ) (d : Data) (query : QueryData) (program : Option Raw) → at ≡ Some here
        → subscription_of here.instance d ≡ Ok query → Done (subscribing_by (new_one here name root query program) (Some here) follows)
    begun_at here name root d query program there asks = by here.view refl
      where
        by : (view : Option ViewData) → here.view ≡ view
            → Done (option_map_or (λ view. subscribing_at (new_one here name root query program) here.instance view follows) view (giving (silence true) follows))
        by None shown gives = all
        by (Some view) shown gives =
            let sees = subst (IsSeen events) there seen view shown in
            with_one events (said ++ sent_to client out) (caught_up view (new_one here name root query program)) follows
            (begun_account run client events said (sent_to client out) name root (here.instance).root d query program view
            (subst (λ i. subscription_of i d ≡ Ok query) sees.0 asks) sees.1
            (sent_after (sent_list client) (compact_text (list_of (instance_of run (here.instance).root) view (new_one here name root query program)) ∷ []) said (sent_to client out)
            (subst (λ i. Sent (sent_list client) (compact_text (list_of i view (new_one here name root query program)) ∷ []) (sent_to client out)) sees.0
            (subst (λ o. Sent (sent_list client) (compact_text (list_of here.instance view (new_one here name root query program)) ∷ []) (sent_to client o)) (sym gives)
            (inr (inl (refl, tt)))))))
            all

    room : (s : SubscriptionData) → Done (subscribing_by s at follows) → Done (following s at follows)
    room s so = by (has_no_room s.number s.name follows)
      where
        by : (b : Bool) → Done (cond b (giving (refuses TooManySubscriptions) follows) (subscribing_by s at follows))
        by true gives = all
        by false gives = so gives

    done : (work : WorkData) → BeginsSo at work → Done (finished work at follows)
    done (says o) so gives = all
    done (prints d) so gives = all
    done (evaluates plan cursor) so gives = all
    done (drops number name) so gives = without_one events (said ++ sent_to client out) number name follows all
    done (begins s) so gives =
        subst (λ x. Done (following x at follows)) (sym so.is)
        (room (new_one so.here so.name so.root so.query so.program)
        (subst (λ a. Done (subscribing_by (new_one so.here so.name so.root so.query so.program) a follows)) (sym so.there)
        (begun_at so.here so.name so.root so.object so.query so.program so.there so.asks)))
        gives

    answered : (ask : Ask) (shelf after : ShelfNow) (left : List SubscriptionData) → AnswersAsk false ask at shelf follows out after left
        → Accounts events (said ++ sent_to client out) left
    answered ask shelf after left (inl is) =
        subst (Accounts events (said ++ sent_to client out)) (ap (λ a. (a.done).follows) is)
        (done (taken_ask ask at shelf).work (begins_so ask at shelf) (sym (ap (λ a. (a.done).out) is)))
    answered ask shelf after left (inr (inl (takes, gives, same, stays))) = subst (Accounts events (said ++ sent_to client out)) (sym stays) all
    answered ask shelf after left (inr (inr (plan, cursor, work, gives, unset, stays))) = subst (Accounts events (said ++ sent_to client out)) (sym stays) all

  -- an ask of the client
  asked_all : (world : WorldData) (said : List SentData) (ask : Ask) (out : OutData) (ready : ReadyData) (later : List RootEvent) (shelf : ShelfNow) (left : List SubscriptionData)
      → world.run ≡ run → Accounts world.events said (world.follows client) → Meets (need_of ask) world.run world.refused world.events ready later
      → Replies false ready ask (stand (Some world.shelf) (world.follows client)) out (stand (Some shelf) left)
      → Accounts later (said ++ sent_to client out) (kept out.goes_on left)
  asked_all world said ask out ready later shelf left of_run all met replies = goes out.goes_on
    where
      before : Accounts later (said ++ sent_to client out) (world.follows client)
      before = all_grown world.events later said (sent_to client out) (world.follows client) (meets (need_of ask) world.run world.refused world.events ready later met) all

      by : (ready : ReadyData) → Meets (need_of ask) run world.refused world.events ready later
          → Replies false ready ask (stand (Some world.shelf) (world.follows client)) out (stand (Some shelf) left)
          → Accounts later (said ++ sent_to client out) left
      by (Err fault) met (may, same) = subst (Accounts later (said ++ sent_to client out)) (sym (ap (λ (s : StandData). s.follows) same)) before
      by (Ok at) met (next, answers, same) =
          answered later at (ready_seen (need_of ask) world.refused world.events at later met) said out (world.follows client) before ask world.shelf next left answers

      goes : (b : Bool) → Accounts later (said ++ sent_to client out) (kept b left)
      goes true = by ready (subst (λ r. Meets (need_of ask) r world.refused world.events ready later) of_run met) replies
      goes false = tt

-- a happening leaves the subscriptions, the shelf and the run of a world
abbrev pub Leaves : WorldData → WorldData → Type 0
Leaves world next = (next.follows ≡ world.follows) × (next.shelf ≡ world.shelf) × (next.run ≡ world.run)

crawls_leave : (number : Option ℕ) (world : WorldData) (root : List ℕ) (pass : PassData) (next : WorldData) → CrawlsAt number world root pass next → Leaves world next
crawls_leave None world root pass next is = (ap (λ w. w.follows) is, ap (λ w. w.shelf) is, ap (λ w. w.run) is)
crawls_leave (Some number) world root pass next (inl (events, passes, is)) = (ap (λ w. w.follows) is, ap (λ w. w.shelf) is, ap (λ w. w.run) is)
crawls_leave (Some number) world root pass next (inr (spent, is)) = (ap (λ w. w.follows) is, ap (λ w. w.shelf) is, ap (λ w. w.run) is)

pub crawl_leaves : (world : WorldData) (root : List ℕ) (seen : Result PassData CrawlFault) (next : WorldData) → Crawls world root seen next → Leaves world next
crawl_leaves world root (Ok pass) next goes = crawls_leave (number_of root world.events) world root pass next goes
crawl_leaves world root (Err fault) next is = (ap (λ w. w.follows) is, ap (λ w. w.shelf) is, ap (λ w. w.run) is)

start_leaves : (world : WorldData) (root : List ℕ) (seen : Result PassData CrawlFault) (next : WorldData) → Starts world root seen next → Leaves world next
start_leaves world root (Ok pass) next is = (ap (λ w. w.follows) is, ap (λ w. w.shelf) is, ap (λ w. w.run) is)
start_leaves world root (Err fault) next is = (ap (λ w. w.follows) is, ap (λ w. w.shelf) is, ap (λ w. w.run) is)

pub watch_leaves : (place : Place) (world : WorldData) (root : List ℕ) (seen : Result PassData CrawlFault) (next : WorldData) → WatchesAt place world root seen next
    → Leaves world next
watch_leaves (IsThere number) world root seen next is = (ap (λ w. w.follows) is, ap (λ w. w.shelf) is, ap (λ w. w.run) is)
watch_leaves Full world root seen next is = (ap (λ w. w.follows) is, ap (λ w. w.shelf) is, ap (λ w. w.run) is)
watch_leaves Free world root seen next goes = start_leaves world root seen next goes

module _ (run : RunData) (client : ℤ) where
  -- the accounts of a world
  abbrev Has : WorldData → List SentData → Type 0
  Has world said = (world.run ≡ run) × Accounts run client world.events said (world.follows client)

  left_alone : (world next : WorldData) (said sent : List SentData) → next.follows ≡ world.follows → next.run ≡ world.run → IsPrefix world.events next.events → Has world said
      → Has next (said ++ sent)
  left_alone world next said sent follows same goes (of_run, all) = (
    same ∙ of_run,
    subst (Accounts run client next.events (said ++ sent)) (sym (ap (λ f. f client) follows)) (all_grown run client world.events next.events said sent (world.follows client) goes all),
  )

  -- the subscriptions of a client, after those of one were put
  put_follows : (of : ℤ) (world next : WorldData) (said sent : List SentData) (left : List SubscriptionData) → Has world said → IsPrefix world.events next.events → next.run ≡ world.run
      → next.follows ≡ with_follows of left world.follows → (of ≡ client → Accounts run client next.events (said ++ sent) left) → Has next (said ++ sent)
  put_follows of world next said sent left (of_run, all) goes same is own = (
    same ∙ of_run,
    subst (λ f. Accounts run client next.events (said ++ sent) (f client)) (sym is) (by (int_eq of client) refl),
  )
    where
      by : (b : Bool) → int_eq of client ≡ b → Accounts run client next.events (said ++ sent) (cond b left (world.follows client))
      by true mine = own ((Decides-int_eq of client).0 mine)
      by false other = all_grown run client world.events next.events said sent (world.follows client) goes all

  step : (world : WorldData) (happening : HappeningData) (sent : List SentData) (next : WorldData) (said : List SentData) → Happens world happening sent next → Has world said
      → Has next (said ++ sent)
  step world (crawl root seen) sent next said is has =
      let stays = crawl_leaves world root seen next is.1 in
      left_alone world next said sent stays.0 stays.2 (happens world (crawl root seen) sent next is) has
  step world (watching root seen) sent next said (empty, (place, found, goes)) has =
      let stays = watch_leaves place world root seen next goes in
      left_alone world next said sent stays.0 stays.2 (happens world (watching root seen) sent next (empty, (place, found, goes))) has
  step world (asked of ask) sent next said (out, (ready, later, met, (shelf, left, replies, is)), sends) has =
      put_follows of world next said sent (kept out.goes_on left) has (happens world (asked of ask) sent next (out, (ready, later, met, (shelf, left, replies, is)), sends))
      (ap (λ w. w.run) is) (ap (λ w. w.follows) is) (λ mine. own (subst (λ c. Accounts run c world.events said (world.follows c)) (sym mine) has.1) mine)
    where
      own : Accounts run of world.events said (world.follows of) → of ≡ client → Accounts run client next.events (said ++ sent) (kept out.goes_on left)
      own all mine =
          subst (λ c. Accounts run c next.events (said ++ sent) (kept out.goes_on left)) mine
          (subst (λ e. Accounts run of e (said ++ sent) (kept out.goes_on left)) (sym (ap (λ w. w.events) is))
          (subst (λ l. Accounts run of later (said ++ l) (kept out.goes_on left)) (sym sends)
          (asked_all run of world said ask out ready later shelf left has.0 all met replies)))
  step world (idle of number) sent next said (out, (table, left, found, idles, is), sends) has =
      put_follows of world next said sent left has (happens world (idle of number) sent next (out, (table, left, found, idles, is), sends))
      (ap (λ w. w.run) is) (ap (λ w. w.follows) is) (λ mine. own (subst (λ c. Accounts run c world.events said (world.follows c)) (sym mine) has.1) mine)
    where
      lines : sent ≡ map (sent_list of) (told_lists_of number (shown_in (numbered number world.run table)) idles.polled)
      lines = sends ∙ ap (sent_to of) idles.gives

      own : Accounts run of world.events said (world.follows of) → of ≡ client → Accounts run client next.events (said ++ sent) left
      own all mine =
          subst (λ c. Accounts run c next.events (said ++ sent) left) mine
          (subst (λ e. Accounts run of e (said ++ sent) left) (sym (ap (λ w. w.events) is))
          (subst (Accounts run of world.events (said ++ sent)) (sym idles.left)
          (all_told run of number world.events said sent (shown_in (numbered number world.run table))
          (subst (λ r. IsShownAs run number world.events (shown_in (numbered number r table))) (sym has.0) (world_shows run number world.events table found))
          idles.polled idles.later (subst (Accounts run of world.events said) idles.parts all)
          (λ lists were. subst (Sent (sent_list of) lists) (sym lines) were))))
  step world (round root answers) sent next said (table, found, goes) has = at (root_by_text root table) goes
    where
      at : (shown : Option RootView) → RoundsFound shown answers world sent next → Has next (said ++ sent)
      at None (empty, is) = left_alone world next said sent (ap (λ w. w.follows) is) (ap (λ w. w.run) is) (begins_itself world.events next.events (ap (λ w. w.events) is)) has
      at (Some shown) had =
          left_alone world next said sent (ap (λ w. w.follows) had.is) (ap (λ w. w.run) had.is) (begins_itself world.events next.events (ap (λ w. w.events) had.is)) has
  step world (ended number) sent next said (empty, is) has =
      left_alone world next said sent (ap (λ w. w.follows) is) (ap (λ w. w.run) is) (begins_itself world.events next.events (ap (λ w. w.events) is)) has

  -- happenings in turn
  through : (world : WorldData) (happenings : List HappeningData) (sent : List SentData) (after : WorldData) (said : List SentData) → Runs world happenings sent after → Has world said
      → Has after (said ++ sent)
  through world [] sent after said (empty, same) has =
      subst (λ l. Has after l) (sym (ap (λ l. said ++ l) empty ∙ append-nil said)) (subst (λ w. Has w said) (sym same) has)
  through world (happening ∷ later) sent after said (next, first, rest, now, parts, behind) has =
      subst (λ l. Has after l) (append_assoc said first rest ∙ ap (λ l. said ++ l) (sym parts))
      (through next later rest after (said ++ first) behind (step world happening first next said now has))

-- the looks of an account have reached their views, and are of the history
pub reached : ViewsAreReached → (history : History) (views : List ViewData) → AreViewsOf history views → HaveReached (map telling views)
reached views_are_reached history [] are = tt
reached views_are_reached history (view ∷ views) ((early, front, viewed), are) = (views_are_reached early view viewed, reached views_are_reached history views are)

pub looks_of : (history : History) (views : List ViewData) → AreViewsOf history views → AreOf history (map telling views)
looks_of history [] are = tt
looks_of history (view ∷ views) (is, are) = (is, looks_of history views are)

module _ (plain : SubscriptionsArePlain) (intervals : IntervalsAdjoin) (missed : NothingIsMissed) (views_are_reached : ViewsAreReached) (run : RunData) (client : ℤ)
    (events : List RootEvent) (sent : List SentData) where
  module _ (s : SubscriptionData) (a : Account run client events sent s) where
    abbrev plan : PlanData
    plan = first_plan a.query a.program

    none_else : HasNoGenerators plan
    none_else = let h = plain (instance_of run s.number) a.object a.query a.asks in (h.suffix, h.path, h.glob)

    followed : IsFollowed run client events sent s
    followed = record {
      object = a.object;
      query = a.query;
      program = a.program;
      asks = a.asks;
      plan = plan;
      planned = refl;
      first = a.first;
      views = a.views;
      are = a.are;
      told = told_since plan (a.first).tick a.views;
      is = refl;
      sends = a.sends;
      exact = intervals (untold plan) (a.first).tick (map telling a.views) none_else (reached views_are_reached (passes_over s.number events) a.views (a.are).1);
      next = a.next;
      once = λ view r viewed among matches since until.
          missed (untold plan) (a.first).tick (passes_over s.number events) (map telling a.views) view none_else
          (looks_of (passes_over s.number events) a.views (a.are).1) viewed r among matches since until;
    }

  all_followed : (follows : List SubscriptionData) → AllByRecursion (Account run client events sent) follows → AllByRecursion (IsFollowed run client events sent) follows
  all_followed [] all = tt
  all_followed (s ∷ follows) all = (followed s all.0, all_followed follows all.1)

-- the law
pub subscriptions_are_exact : SubscriptionsArePlain → IntervalsAdjoin → NothingIsMissed → ViewsAreReached → SubscriptionsAreExact
subscriptions_are_exact plain intervals missed views_are_reached run sockname happenings sent world client runs =
    All-from_recursion (IsFollowed run client world.events sent) (world.follows client)
    (all_followed plain intervals missed views_are_reached run client world.events sent (world.follows client)
    (through run client (new_world run sockname) happenings sent world [] runs (refl, tt)).1)
