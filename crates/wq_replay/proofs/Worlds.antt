-- The runs of worlds.
use Rattle.std.proofs.Common.{◌≡◌, ℕ, ℤ, Bool, true, false, if◌then◌else◌, List, [], ◌∷◌, ◌++◌, Option, Some, None, Result, Ok, Err, IfOk, IfSome, OnOk, MatchOption, Vec, map, option_map, refl, sym, ap, subst, ◌∙◌}
use Rattle.std.proofs.lemmas.List.{append-nil, append_assoc}
use Rattle.std.specs.Ordering.{int_eq}
use Rattle.wq_follow.specs.Subscription.{SubscriptionData}
use Rattle.wq_live.specs.Event.{number_of}
use Rattle.wq_live.specs.Table.{IsTableOf}
use Rattle.wq_session.specs.Need.{need_of}
use Rattle.wq_session.specs.Out.{OutData}
use Rattle.wq_session.specs.Moment.{Idles}
use Rattle.wq_session.specs.Desk.{stand}
use Rattle.wq_crawl.specs.At.{AtData}
use Rattle.wq_session.specs.At.{ShelfNow}
use Rattle.wq_session.specs.Shelved.{shelf_data}
use Rattle.wq_live.specs.declared.event.RootEvent.{RootEvent}
use Rattle.wq_ask.specs.declared.ask.Ask.{Ask}
use Rattle.wq_crawl.specs.Need.{NeedData}
use Rattle.wq_crawl.specs.Publish.{IsPlace}
use Rattle.wq_crawl.specs.declared.fault.CrawlFault.{CrawlFault}
use Rattle.wq_crawl.specs.declared.place.Place.{Place}
use Rattle.wq_crawl.specs.declared.place.Place.TheVariants.{Free}
use Rattle.wq_crawl.specs.Views.{ReadyData}
use Rattle.wq_session.specs.Desk.{Replies}
use Rattle.wq_view.specs.Listing.{PassData}
use Rattle.std.specs.declared.alloc.Global.{Global}
use Rattle.std.specs.declared.alloc.AllocError.{AllocError}
use Rattle.wq_replay.specs.Client.{follows_in}
use Rattle.wq_replay.specs.Clients.{FollowsNow}
use Rattle.wq_replay.specs.Launched.{runs_data}
use Rattle.wq_replay.specs.Stands.{Leads, Stands, all_sent, happening_data, sent_if, sent_of}
use Rattle.wq_crawl.specs.Tables.{refused_data}
use Rattle.wq_replay.specs.declared.client.Client.{Client}
use Rattle.wq_replay.specs.declared.happening.Happening.{Happening}
use Rattle.wq_replay.specs.declared.sent.Sent.{Sent}
use Rattle.wq_replay.specs.declared.world.World.{World}
use Rattle.wq_clock.specs.Run.{RunData, run_data}
use Rattle.wq_crawl.specs.Meets.{Meets, numbered}
use Rattle.wq_replay.specs.Gets.{Gets, Rests, answered, kept, with_follows}
use Rattle.wq_replay.specs.Playing.{Happens, Runs}
use Rattle.wq_crawl.specs.Meets.{RefusedData}
use Rattle.wq_replay.specs.World.{Crawls, CrawlsAt, HappeningData, SentData, Starts, Watches, WatchesAt, WorldData, at_events, unrefused}

-- two runs, one after the other, are one run
pub runs_go_on : (world between after : WorldData) (first later : List HappeningData)
    (sent rest : List SentData) → Runs world first sent between → Runs between later rest after
    → Runs world (first ++ later) (sent ++ rest) after
runs_go_on world between after [] later sent rest (none, is) goes =
    subst (λ w. Runs w later (sent ++ rest) after) is
    (subst (λ s. Runs between later (s ++ rest) after) (sym none) goes)
runs_go_on world between after (happening ∷ first) later sent rest (next, now, behind, does, is, runs) goes =
    (next, now, behind ++ rest, does, ap (λ s. s ++ rest) is ∙ append_assoc now behind rest, runs_go_on next between after first later behind rest runs goes)

-- one happening is a run
pub runs_one : (world after : WorldData) (happening : HappeningData) (sent : List SentData) → Happens world happening sent after
    → Runs world (happening ∷ []) sent after
runs_one world after happening sent does = (after, sent, [], does, sym (append-nil sent), (refl, refl))

-- a crawl of a root that is not shown
pub crawls_none : (before : WorldData) (root : List ℕ) (pass : PassData) → number_of root before.events ≡ None
    → Crawls before root (Ok pass) (unrefused before)
crawls_none before root pass none = subst (λ n. CrawlsAt n before root pass (unrefused before)) (sym none) refl

-- a crawl of a root that is shown
pub crawls_shown : (before after : WorldData) (root : List ℕ) (pass : PassData) (number : ℕ)
    → number_of root before.events ≡ Some number → CrawlsAt (Some number) before root pass after
    → Crawls before root (Ok pass) after
crawls_shown before after root pass number some crawls = subst (λ n. CrawlsAt n before root pass after) (sym some) crawls

-- a watch that starts a root
pub watches_free : (before : WorldData) (root : List ℕ) (seen : Result PassData CrawlFault) (place : Place)
    (result : Result (Unit {0}) AllocError) (Then : WorldData → Type 0) → IsPlace root before.events place → place ≡ Free
    → OnOk result ((after : WorldData) × Starts before root seen after × Then after)
    → OnOk result ((after : WorldData) × Watches before root seen after × Then after)
watches_free before root seen place (Err error) Then found free starts = tt
watches_free before root seen place (Ok done) Then found free (after, starts, holds) =
    (after, (place, found, subst (λ p. WatchesAt p before root seen after) (sym free) starts), holds)

-- the subscriptions of clients in the code, if those of one client changed
pub follows_still : (client : ℤ) (left : List SubscriptionData) (world code next : ℤ → List SubscriptionData)
    → ((other : ℤ) → world other ≡ code other) → ((other : ℤ) → next other ≡ with_follows client left code other)
    → (other : ℤ) → with_follows client left world other ≡ next other
follows_still client left world code next stands now other =
    by (int_eq client other) ∙ sym (now other)
  where
    by : (b : Bool) → (if b then left else world other) ≡ (if b then left else code other)
    by true = refl
    by false = stands other

-- an answer to a client, and the world after it
pub answers_well : (before : WorldData) (client : ℤ) (ask : Ask) (ready : ReadyData) (later : List RootEvent) (from shelf : ShelfNow) (had : List Client)
    (left : List SubscriptionData) (out : OutData) (code : World) → before.shelf ≡ from
    → ((other : ℤ) → before.follows other ≡ follows_in other had) → Meets (need_of ask) before.run before.refused before.events ready later
    → Replies false ready ask (stand (Some from) (follows_in client had)) out (stand (Some shelf) left)
    → FollowsNow client (kept out.goes_on left) had code.clients.items → before.run ≡ run_data code.views.run
    → IsTableOf later code.views.table → shelf ≡ shelf_data code.shelf → before.runs ≡ runs_data code.runs
    → None ≡ option_map refused_data code.views.refused → code.spent ≡ false
    → (after : WorldData) × Gets client before ask out after × Stands after code
answers_well before client ask ready later from shelf had left out code held follows meets replies now run roots shown runs refused whole = (
  answered client shelf (kept out.goes_on left) (at_events later before),
  (
    ready,
    later,
    meets,
    (
      shelf,
      left,
      subst (λ f. Replies false ready ask (stand (Some before.shelf) f) out (stand (Some shelf) left)) (sym (follows client))
          (subst (λ s. Replies false ready ask (stand (Some s) (follows_in client had)) out (stand (Some shelf) left)) (sym held) replies),
      refl,
    ),
  ),
  record {
    run = run;
    roots = roots;
    shelf = shown;
    follows = follows_still client (kept out.goes_on left) before.follows (λ other. follows_in other had) (λ other. follows_in other code.clients.items) follows now;
    runs = runs;
    refused = refused;
    whole = whole;
  },
)

-- an idle moment of a client, and the world after it
pub rests_well : (before : WorldData) (client : ℤ) (root : ℕ) (at : Option AtData) (had : List Client) (code : World)
    (result : Result OutData AllocError) → at ≡ numbered root before.run code.views.table
    → ((other : ℤ) → before.follows other ≡ follows_in other had) → before.run ≡ run_data code.views.run
    → IsTableOf before.events code.views.table → before.shelf ≡ shelf_data code.shelf → before.runs ≡ runs_data code.runs → None ≡ option_map refused_data code.views.refused → code.spent ≡ false
    → IfOk result (λ out. (left : List SubscriptionData) × Idles root at (follows_in client had) out left
    × FollowsNow client left had code.clients.items)
    → IfOk result (λ out. (after : WorldData) × Rests client root before out after × Stands after code)
rests_well before client root at had code (Err error) same follows run roots held runs refused whole idles = tt
rests_well before client root at had code (Ok out) same follows run roots held runs refused whole (left, idles, now) = (
  answered client before.shelf left before,
  (
    code.views.table,
    left,
    roots,
    subst (λ f. Idles root (numbered root before.run code.views.table) f out left) (sym (follows client))
        (subst (λ a. Idles root a (follows_in client had) out left) same idles),
    refl,
  ),
  record {
    run = run;
    roots = roots;
    shelf = held;
    follows = follows_still client left before.follows (λ other. follows_in other had) (λ other. follows_in other code.clients.items) follows now;
    runs = runs;
    refused = refused;
    whole = whole;
  },
)

-- a fact about an option that was given
pub given_none : {X E : Type 0} (A : Type 0) (B : X → Type 0) (result : Result (Option X) E) (field : Option X) → result ≡ Ok field → field ≡ None
    → IfOk result (λ next. MatchOption next A B) → A
given_none A B result field is none holds =
    subst (λ f. MatchOption f A B) none (subst (λ r. IfOk r (λ next. MatchOption next A B)) is holds)

pub some_holds : {X E : Type 0} (B : X → Type 0) (result : Result (Option X) E) (field : Option X) (x : X) → result ≡ Ok field
    → field ≡ Some x → IfOk result (λ next. IfSome next B) → B x
some_holds B result field x is some holds =
    subst (λ f. IfSome f B) some (subst (λ r. IfOk r (λ next. IfSome next B)) is holds)

-- a need that is met in the code's values
pub met_here : (need : NeedData) (run mine : RunData) (refused taken : Option RefusedData) (events : List RootEvent) (ready : ReadyData) (later : List RootEvent)
    → run ≡ mine → refused ≡ taken → Meets need mine taken events ready later → Meets need run refused events ready later
met_here need run mine refused taken events ready later same held meets =
    subst (λ r. Meets need r refused events ready later) (sym same) (subst (λ f. Meets need mine f events ready later) (sym held) meets)

-- the happenings that were played so far, whatever is played after them
abbrev pub PlaysOn : WorldData → List HappeningData → List SentData → WorldData → List HappeningData → Type 0
PlaysOn before all sent now left =
    (rest : List SentData) (after : WorldData) → Runs now left rest after → Runs before all (sent ++ rest) after

-- one more happening was played
pub plays_one : (before now next : WorldData) (all left : List HappeningData) (happening : HappeningData) (sent said : List SentData)
    → PlaysOn before all sent now (happening ∷ left) → Happens now happening said next → PlaysOn before all (sent ++ said) next left
plays_one before now next all left happening sent said plays does = λ rest after runs.
    subst (λ s. Runs before all s after) (sym (append_assoc sent said rest))
    (plays (said ++ rest) after (next, said, rest, does, refl, runs))

-- the same of the code's happenings and replies
pub plays_next : (before now next : WorldData) (all : List HappeningData) (left behind : List Happening) (happening : Happening)
    (sent after : List Sent) (said : Option Sent) → left ≡ happening ∷ behind → all_sent after ≡ all_sent sent ++ sent_if said
    → PlaysOn before all (all_sent sent) now (map happening_data left) → Happens now (happening_data happening) (sent_if said) next
    → PlaysOn before all (all_sent after) next (map happening_data behind)
plays_next before now next all left behind happening sent after said is more plays does =
    subst (λ s. PlaysOn before all s next (map happening_data behind)) (sym more)
    (plays_one before now next all (map happening_data behind) (happening_data happening) (all_sent sent) (sent_if said)
    (subst (λ l. PlaysOn before all (all_sent sent) now (map happening_data l)) is plays) does)

-- the lines that are sent for one more happening
sent_then : (sent : List Sent) (one : Sent) → all_sent (sent ++ one ∷ []) ≡ all_sent sent ++ sent_of one
sent_then [] one = append-nil (sent_of one)
sent_then (first ∷ sent) one =
    ap (λ rest. sent_of first ++ rest) (sent_then sent one) ∙ sym (append_assoc (sent_of first) (all_sent sent) (sent_of one))

pub said_some : (sent after : List Sent) (one : Sent) (said : Option Sent) → after ≡ sent ++ one ∷ [] → said ≡ Some one
    → all_sent after ≡ all_sent sent ++ sent_if said
said_some sent after one said is some =
    ap all_sent is ∙ sent_then sent one ∙ ap (λ s. all_sent sent ++ sent_if s) (sym some)

-- and of nothing
pub said_none : (sent : List Sent) (said : Option Sent) → said ≡ None → all_sent sent ≡ all_sent sent ++ sent_if said
said_none sent said none =
    sym (append-nil (all_sent sent)) ∙ ap (λ s. all_sent sent ++ sent_if s) (sym none)

-- nothing is left
pub plays_all : (before now : WorldData) (all : List HappeningData) (sent : List SentData) → PlaysOn before all sent now []
    → Runs before all sent now
plays_all before now all sent plays =
    subst (λ s. Runs before all s now) (append-nil sent) (plays [] now (refl, refl))

-- if the happenings that led to the code go on by a run, all of them lead to the code after it
pub leads_on : (first : WorldData) (events happenings : List HappeningData) (said : List SentData) (code next : World)
    (result : Result (Vec Sent Global) AllocError) → Leads first events said code
    → ((before : WorldData) → Stands before code → IfOk result (λ sent. (after : WorldData)
    × Runs before happenings (all_sent sent.items) after × Stands after next))
    → IfOk result (λ sent. Leads first (events ++ happenings) (said ++ all_sent sent.items) next)
leads_on first events happenings said code next (Ok sent) (world, runs, stands) plays =
    let goes = plays world stands in
    (goes.0, runs_go_on first world goes.0 events happenings said (all_sent sent.items) runs goes.1, goes.2)
leads_on first events happenings said code next (Err error) leads plays = tt
