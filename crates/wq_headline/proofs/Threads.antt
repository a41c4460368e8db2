-- The replies of a session on threads to lines that ask for files.
use Rattle.std.proofs.Common.{◌≡◌, ◌⊎◌, ℕ, Bool, true, false, List, [], ◌∷◌, Option, Some, None, option_map, Result, Ok, Err, IfSome, inl, inr, refl, ap, sym, subst, ◌∙◌}
use Rattle.serde_json.specs.Data.{Data}
use Rattle.serde_json.specs.View.{view as data_of}
use Rattle.serde_json.specs.declared.value.Value.{Value}
use Rattle.wq_ask.specs.HandedIn.{AsksHandInValid, HandsInValid}
use Rattle.wq_session.specs.Need.{need_of}
use Rattle.wq_session.specs.Out.{OutData}
use Rattle.wq_ask.specs.Reading.{Asks}
use Rattle.wq_ask.specs.declared.ask.Ask.{Ask}
use Rattle.wq_ask.specs.declared.ask.Ask.TheVariants.{Alone, OfRoot}
use Rattle.wq_ask.specs.declared.ask.LoneAsk.TheVariants.{Refused}
use Rattle.wq_ask.specs.declared.ask.RootAsk.TheVariants.{Query as AsksQuery}
use Rattle.wq_session.specs.declared.cursor.Cursor.{Cursor}
use Rattle.wq_ask.specs.declared.refusal.Refusal.TheVariants.{NoMemory}
use Rattle.wq_clock.specs.Instance.{InstanceData}
use Rattle.wq_clock.specs.Run.{instance_of, run_data}
use Rattle.wq_clock.specs.declared.run.Run.{Run}
use Rattle.wq_crawl.specs.Roots.{passing}
use Rattle.wq_crawl.specs.declared.fault.CrawlFault.{CrawlFault}
use Rattle.wq_follow.specs.Subscription.{SubscriptionData}
use Rattle.wq_live.specs.Event.{Root}
use Rattle.wq_live.specs.declared.event.RootEvent.{RootEvent}
use Rattle.wq_session.proofs.Reaching.{take_reached, unset_reached}
use Rattle.wq_crawl.specs.Basis.{Basis}
use Rattle.wq_crawl.specs.Ready.{Hears, KnownData, Looks, LooksAfter, Readies}
use Rattle.wq_crawl.specs.Run.{ShowsAt}
use Rattle.wq_session.specs.Serving.{Does, GoesOn, IsAnswered, PlaceData, Serves, stand_at}
use Rattle.wq_session.specs.Answer.{AnswersAsk, without_cursor}
use Rattle.wq_crawl.specs.At.{AtData}
use Rattle.wq_session.specs.At.{ShelfNow}
use Rattle.wq_session.specs.Begun.{taken_ask}
use Rattle.wq_session.specs.Desk.{AnswersShelf, StandData}
use Rattle.wq_session.specs.Reached.{IsReached, ReachedProgramsAreValid}
use Rattle.wq_crawl.specs.Views.{ReadyData}
use Rattle.wq_session.specs.Desk.{Replies}
use Rattle.wq_stream.specs.declared.event.Event.{Event}
use Rattle.wq_stream.specs.declared.event.Event.TheVariants.{Line, Long, Binary, Idle, End, Fault}
use Rattle.wq_view.specs.View.{ViewData}
use Rattle.wq_headline.specs.Exact.{AreExact, HearsBefore, IsExact, IsReplyAt, IsReplyOf, SeesAt, ServedRepliesAreExact, Shows}
use Rattle.wq_headline.specs.Gone.{LeavesList}
use Rattle.wq_headline.proofs.Gone.{stayed}
use Rattle.wq_headline.proofs.Moments.{lists_exact}
use Rattle.wq_headline.proofs.Queries.{query_reply}
use Rattle.wq_headline.proofs.Worldly.{AsksFiles, line_asks, short_reply}

-- the root that is looked at, of its parts
abbrev at_of : InstanceData → Option ViewData → AtData
at_of instance view = record { instance = instance; view = view }

-- a look shows what its list shows
shows_of_look : (run : Run) (root : List ℕ) (events : List RootEvent) (at : Option AtData) → ShowsAt run root events at → Shows (run_data run) root events at
shows_of_look run root events None (lawful, absent) = ap (option_map (λ (r : Root). r.number)) absent
shows_of_look run root events (Some at) (lawful, (r, found, instance, view, there, views)) = (
  r.number,
  view,
  ap (option_map (λ (r : Root). r.number)) found,
  views,
  ap (λ i. at_of i at.view) instance ∙ ap (at_of (instance_of (run_data run) r.number)) there,
)

sees_of_look : (basis : Basis) (root : List ℕ) (before after : KnownData) (at : Option AtData) → Looks basis root before at after → SeesAt basis root before at after
sees_of_look basis root before after at (roots, inl (begins, shows, published)) = inl (begins, published, shows_of_look basis.run root after.seen at shows)
sees_of_look basis root before after at (roots, inr (same, unseen, refused)) = inr (unseen, subst basis.refused (sym same) refused)

-- a shelf that an answer leaves is reached
begun_reached : (ask : Ask) (at : Option AtData) (shelf : ShelfNow) → HandsInValid ask → IsReached shelf → IsReached (taken_ask ask at shelf).shelf
begun_reached ask at shelf valid reached = take_reached ask at shelf (taken_ask ask at shelf).shelf (taken_ask ask at shelf).work valid (inl refl) reached

unset_stays : (cursor : Option Cursor) (shelf : ShelfNow) → IsReached shelf → IsReached (without_cursor cursor shelf)
unset_stays None shelf reached = reached
unset_stays (Some cursor) shelf reached = unset_reached cursor.root cursor.name shelf reached

answer_reached : (ask : Ask) (at : Option AtData) (shelf after : ShelfNow) (follows left : List SubscriptionData) (out : OutData) → HandsInValid ask
    → AnswersAsk true ask at shelf follows out after left → IsReached shelf → IsReached after
answer_reached ask at shelf after follows left out valid (inl is) reached = subst IsReached (ap (λ a. a.shelf) is) (begun_reached ask at shelf valid reached)
answer_reached ask at shelf after follows left out valid (inr (inl (takes, is, same, stays))) reached = subst IsReached (sym same) reached
answer_reached ask at shelf after follows left out valid (inr (inr (plan, cursor, work, is, unset, stays))) reached =
    subst IsReached (sym unset) (unset_stays cursor (taken_ask ask at shelf).shelf (begun_reached ask at shelf valid reached))

shelf_reached : (shown after : Option ShelfNow) (ask : Ask) (at : Option AtData) (follows left : List SubscriptionData) (out : OutData) → HandsInValid ask
    → AnswersShelf true shown follows ask at out after left → IfSome shown IsReached → IfSome after IsReached
shelf_reached None after ask at follows left out valid (shelf, next, here, answers, is) reached = subst (λ s. IfSome s IsReached) (sym is) tt
shelf_reached (Some shelf) after ask at follows left out valid (next, answers, is) reached =
    subst (λ s. IfSome s IsReached) (sym is) (answer_reached ask at shelf next follows left out valid answers reached)

module _ (hand_in_valid : AsksHandInValid) (basis : Basis) where
  answered_reached : (event : Event) (ask : Ask) (before after : KnownData) (stand left : StandData) (out : OutData) → Asks event ask
      → IsAnswered basis ask before stand out after left → IfSome stand.shelf IsReached → IfSome left.shelf IsReached
  answered_reached event ask before after stand left out asks (ready, readies, replies) reached = by ready replies
    where
      by : (ready : ReadyData) → Replies true ready ask stand out left → IfSome left.shelf IsReached
      by (Ok at) answers = shelf_reached stand.shelf left.shelf ask at stand.follows left.follows out (hand_in_valid event ask asks) answers reached
      by (Err fault) (may, same) = subst (λ (s : StandData). IfSome s.shelf IsReached) (sym same) reached

  does_reached : (event : Event) (before after : KnownData) (stand left : StandData) (out : OutData) → Does basis event before stand out after left
      → IfSome stand.shelf IsReached → IfSome left.shelf IsReached
  does_reached (Line line) before after stand left out (ask, asks, answered) reached = answered_reached (Line line) ask before after stand left out asks answered reached
  does_reached Long before after stand left out (ask, asks, answered) reached = answered_reached Long ask before after stand left out asks answered reached
  does_reached Binary before after stand left out (ask, asks, answered) reached = answered_reached Binary ask before after stand left out asks answered reached
  does_reached (Idle root) before after stand left out (roots, shelf, sees) reached = subst (λ s. IfSome s IsReached) (sym shelf) reached
  does_reached End before after stand left out (ask, asks, answered) reached = answered_reached End ask before after stand left out asks answered reached
  does_reached Fault before after stand left out (ask, asks, answered) reached = answered_reached Fault ask before after stand left out asks answered reached

-- the shelf at which an ask is answered
answered_at : (shown after : Option ShelfNow) (ask : Ask) (at : Option AtData) (follows left : List SubscriptionData) (out : OutData)
    → IfSome shown IsReached → AnswersShelf true shown follows ask at out after left
    → (shelf : ShelfNow) × (next : ShelfNow) × IfSome shown (λ s. shelf ≡ s) × IsReached shelf × AnswersAsk true ask at shelf follows out next left
answered_at None after ask at follows left out reached (shelf, next, here, answers, is) = (shelf, next, tt, here, answers)
answered_at (Some shelf) after ask at follows left out reached (next, answers, is) = (shelf, next, refl, reached, answers)

module _ (programs : ReachedProgramsAreValid) (basis : Basis) (before after : PlaceData) (reached : IfSome before.shelf IsReached)
    (root : List ℕ) (d : Data) (out : OutData) where
  -- the reply to an ask that is ready
  abbrev Reply : ReadyData → Ask → Type 0
  Reply ready ask = Replies true ready ask (stand_at before) out (stand_at after)

  -- at what the session sees
  reply_at : (crawl : Bool) (q : Value) (heard : KnownData) (at : Option AtData) (ready : ReadyData) → data_of q ≡ d → HearsBefore crawl root before.known heard
      → Looks basis root heard at after.known → ready ≡ Ok at → Reply ready (OfRoot root crawl (AsksQuery q)) → IsReplyOf basis before root crawl d out after
  reply_at crawl q heard at ready same hears looks is replies =
      let it = answered_at before.shelf after.shelf (OfRoot root crawl (AsksQuery q)) at before.follows after.follows out reached
      (subst (λ r. Reply r (OfRoot root crawl (AsksQuery q))) is replies) in
      by it.0 it.1 it.2 it.3 (stayed (OfRoot root crawl (AsksQuery q)) at it.0 before.follows out it.1 after.follows it.4)
    where
      by : (shelf next : ShelfNow) → IfSome before.shelf (λ s. shelf ≡ s) → IsReached shelf
          → LeavesList (OfRoot root crawl (AsksQuery q)) at shelf out ⊎ AnswersAsk false (OfRoot root crawl (AsksQuery q)) at shelf before.follows out next after.follows
          → IsReplyOf basis before root crawl d out after
      by shelf next shown there (inl goes) =
          inr (inl (heard, at, shelf, hears, sees_of_look basis root heard after.known at looks, shown, there, inr (q, same, goes)))
      by shelf next shown there (inr answers) = inr (inl (
        heard,
        at,
        shelf,
        hears,
        sees_of_look basis root heard after.known at looks,
        shown,
        there,
        inl (subst (λ e. IsReplyAt root e at shelf out) same
            (query_reply shelf (λ name raw. programs shelf name raw there) root crawl q at before.follows after.follows out next answers)),
      ))

  crawled : (q : Value) (told : Result (Option (List RootEvent)) CrawlFault) (heard : KnownData) (ready : ReadyData) → data_of q ≡ d
      → Hears before.known (passing root) told heard → LooksAfter basis root told heard ready after.known → Reply ready (OfRoot root true (AsksQuery q))
      → IsReplyOf basis before root true d out after
  crawled q (Ok told) heard ready same hears (at, looks, is) replies = reply_at true q heard at ready same (told, hears) looks is replies
  crawled q (Err fault) heard ready same hears (is, stays) replies =
      inl (fault, (refl, subst (Hears before.known (passing root) (Err fault)) (sym stays) hears), (subst (λ r. Reply r (OfRoot root true (AsksQuery q))) is replies).0)

  asked_files : (crawl : Bool) (q : Value) (ready : ReadyData) → data_of q ≡ d → Readies basis (need_of (OfRoot root crawl (AsksQuery q))) before.known ready after.known
      → Reply ready (OfRoot root crawl (AsksQuery q)) → IsReplyOf basis before root crawl d out after
  asked_files false q ready same (at, looks, is) replies = reply_at false q before.known at ready same refl looks is replies
  asked_files true q ready same (told, heard, hears, looks) replies = crawled q told heard ready same hears looks replies

  asked : (crawl : Bool) (ask : Ask) (ready : ReadyData) → AsksFiles root crawl d ask → Readies basis (need_of ask) before.known ready after.known → Reply ready ask
      → IsReplyOf basis before root crawl d out after
  asked crawl ask ready (inl (q, is, same)) readies replies =
      asked_files crawl q ready same (subst (λ a. Readies basis (need_of a) before.known ready after.known) is readies) (subst (Reply ready) is replies)
  asked crawl ask ready (inr is) readies replies =
      let met : (ready ≡ Ok None) × (after.known ≡ before.known) = subst (λ a. Readies basis (need_of a) before.known ready after.known) is readies in
      let it = answered_at before.shelf after.shelf (Alone (Refused NoMemory)) None before.follows after.follows out reached
      (subst (λ r. Reply r (Alone (Refused NoMemory))) met.0 (subst (Reply ready) is replies)) in
      by it.0 it.1 (stayed (Alone (Refused NoMemory)) None it.0 before.follows out it.1 after.follows it.4)
    where
      by : (shelf next : ShelfNow) → LeavesList (Alone (Refused NoMemory)) None shelf out ⊎ AnswersAsk false (Alone (Refused NoMemory)) None shelf before.follows out next after.follows
          → IsReplyOf basis before root crawl d out after
      by shelf next (inl (plan, cursor, work, goes)) = absurd (cc work)
      by shelf next (inr answers) = inr (inr (short_reply None shelf next before.follows after.follows out answers))

module _ (programs : ReachedProgramsAreValid) (hand_in_valid : AsksHandInValid) (basis : Basis) where
  -- of one event
  is_exact : (before after : PlaceData) (event : Event) (out : OutData) → IfSome before.shelf IsReached → Serves basis before event out after → IsExact basis before event out after
  is_exact before after (Line line) out reached (hands, (ask, asks, (ready, readies, replies))) =
      λ root crawl d is. asked programs basis before after reached root d out crawl ask ready (line_asks line root crawl d ask is asks) readies replies
  is_exact before after Long out reached serves = tt
  is_exact before after Binary out reached serves = tt
  is_exact before after (Idle number) out reached (hands, does) = lists_exact basis before after number out does
  is_exact before after End out reached serves = tt
  is_exact before after Fault out reached serves = tt

  goes_reached : (before after : PlaceData) (event : Event) (out : OutData) → Serves basis before event out after → IfSome before.shelf IsReached → IfSome after.shelf IsReached
  goes_reached before after event out (hands, does) reached = does_reached hand_in_valid basis event before.known after.known (stand_at before) (stand_at after) out does reached

  -- of events after which the session goes on, and the shelf then
  are_exact : (before : PlaceData) (events : List Event) (written : List ℕ) (after : PlaceData) (goes : GoesOn basis before events written after)
      → IfSome before.shelf IsReached → AreExact basis before events written after goes × IfSome after.shelf IsReached
  are_exact before [] written after (silent, same) reached = (tt, subst (λ (p : PlaceData). IfSome p.shelf IsReached) (sym same) reached)
  are_exact before (event ∷ later) written after (out, next, rest, serves, on, is, goes) reached =
      let others = are_exact next later rest after goes (goes_reached before next event out serves reached) in
      ((is_exact before next event out reached serves, others.0), others.1)

  pub served_replies_are_exact : ServedRepliesAreExact basis
  served_replies_are_exact before after old new how (inl by) reached =
      let goes = are_exact before by.events by.lines by.between by.goes_on reached in
      (goes.0, is_exact by.between after by.last by.out goes.1 by.serves)
  served_replies_are_exact before after old new how (inr full) reached =
      (are_exact before full.events full.lines after full.goes_on reached).0
