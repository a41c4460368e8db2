-- An event of a session that is served alone is a run of the world.
use Rattle.std.proofs.Common.{◌≡◌, ◌⊎◌, ℕ, ℤ, true, false, List, [], ◌∷◌, ◌++◌, Some, None, inl, inr, refl, ap, sym, subst, ◌∙◌}
use Rattle.std.proofs.lemmas.Option.{same_Some}
use Rattle.wq_clock.specs.declared.run.Run.{Run}
use Rattle.wq_crawl.specs.Crawl.{CrawlerData}
use Rattle.wq_live.specs.Table.{IsTableOf, TableData}
use Rattle.wq_replay.proofs.Worlds.{runs_one}
use Rattle.wq_crawl.specs.Meets.{numbered}
use Rattle.wq_replay.specs.Gets.{answered, kept}
use Rattle.wq_replay.specs.Playing.{sent_to}
use Rattle.wq_replay.specs.World.{HappeningData, WorldData, asked, idle}
use Rattle.wq_crawl.specs.Basis.{Basis}
use Rattle.wq_session.specs.Idling.{IsIdled}
use Rattle.wq_session.specs.Serving.{IsAnswered, PlaceData, stand_at}
use Rattle.wq_session.specs.Need.{need_of}
use Rattle.wq_session.specs.Out.{OutData}
use Rattle.wq_ask.specs.Reading.{Asks}
use Rattle.wq_ask.specs.declared.ask.Ask.{Ask}
use Rattle.wq_session.specs.Answer.{answer, giving}
use Rattle.wq_session.specs.At.{ShelfNow}
use Rattle.wq_session.specs.Desk.{stand}
use Rattle.wq_crawl.specs.Views.{ReadyData}
use Rattle.wq_session.specs.Desk.{Replies}
use Rattle.wq_session.specs.Moment.{Idles}
use Rattle.wq_stream.specs.declared.event.Event.{Event}
use Rattle.wq_stream.specs.declared.event.Event.TheVariants.{Line, Long, Binary, Idle, End, Fault}
use Rattle.wq_headline.specs.Alone.{EventsAreRuns, HasGone, HappensFirst, HappensFor, IsCurrent, IsRunFor, ShowsWorld, WasBlind}
use Rattle.wq_headline.proofs.Asked.{asks_well, exact_or_short, short_of_watch}
use Rattle.wq_headline.proofs.Gone.{LeftList, stayed_reply}
use Rattle.wq_headline.proofs.Idled.{own_follows}
use Rattle.wq_headline.proofs.Looks.{numbers_find_roots}
use Rattle.wq_headline.proofs.Needs.{IsReadyAs, IsReadyThere, MayRunOut, ShowsRoots, readies_well}
use Rattle.wq_view.specs.View.{HasOneView}

-- the table of a world
shows_table : (run : Run) (client : ℤ) (before : PlaceData) (world : WorldData) → ShowsWorld run client true before world → (table : TableData) × IsTableOf world.events table
shows_table run client before world shows =
    ((shows.current).1, subst (λ e. IsTableOf e (shows.current).1) (sym shows.events) (shows.current).4)

-- an idle moment
idle_run : HasOneView → (basis : Basis) (client : ℤ) (before after : PlaceData) (root : ℕ) (out : OutData) (world : WorldData) → ShowsWorld basis.run client true before world
    → IsIdled basis root before.known (stand_at before) out after.known (stand_at after) → IsCurrent after.known
    → IsRunFor basis client world (Idle root) out after
idle_run one_view basis client before after root out world shows (roots, shelf, inr (same, silent, left, refused)) current = (
  [],
  world,
  inl (refl, ((before.known).seen, refused)),
  (ap (sent_to client) silent, refl),
  record {
    current = current;
    events = shows.events ∙ sym same;
    shelf = shelf ∙ shows.shelf;
    follows = shows.follows ∙ sym left ∙ ap (λ (o : OutData). kept o.goes_on after.follows) (sym silent);
    of_run = shows.of_run;
    refused = shows.refused;
  },
)
idle_run one_view basis client before after root out world shows (roots, shelf, inl (at, begins, sees, idles, published)) current =
    let table = shows_table basis.run client before world shows in
    let next : WorldData = answered client world.shelf after.follows world in (
      idle client root ∷ [],
      next,
      inr refl,
      runs_one world next (idle client root) (sent_to client out)
          (out, (table.0, after.follows, table.1, idles_there table.0 table.1, refl), refl),
      record {
        current = current;
        events = here;
        shelf = shelf ∙ shows.shelf;
        follows = own_follows client after.follows world.follows ∙ ap (λ (o : OutData). kept o.goes_on after.follows) (sym idles.gives);
        of_run = shows.of_run;
        refused = refl;
      },
    )
  where
    here : world.events ≡ (after.known).seen
    here = shows.events ∙ (shows.current).3 ∙ ap (λ (c : CrawlerData). c.events) (same_Some _ _ (sym (shows.current).2 ∙ sym roots ∙ current.2)) ∙ sym current.3

    idles_there : (table : TableData) → IsTableOf world.events table → Idles root (numbered root world.run table) (world.follows client) out after.follows
    idles_there table is =
        let same = numbers_find_roots one_view basis.run root (after.known).seen table at (subst (λ e. IsTableOf e table) here is) sees in
        subst (λ f. Idles root (numbered root world.run table) f out after.follows) (sym shows.follows)
        (subst (λ a. Idles root a before.follows out after.follows) (same ∙ ap (λ r. numbered root r table) (sym shows.of_run)) idles)

-- any other event asks something
module _ (one_view : HasOneView) (basis : Basis) (client : ℤ) (before after : PlaceData) (event : Event) (out : OutData) (world : WorldData)
    (shows : ShowsWorld basis.run client true before world) (current : IsCurrent after.known)
    (happens : (happenings : List HappeningData) → (ask : Ask) × (first : List HappeningData) × Asks event ask × HappensFirst (need_of ask) first
    × (happenings ≡ first ++ asked client ask ∷ []) → HappensFor basis client event happenings) (ask : Ask) (asks : Asks event ask) where
  roots : ShowsRoots basis.run before.known world
  roots = record { current = shows.current; events = shows.events; of_run = shows.of_run; refused = shows.refused }

  -- the reply to the ask, if it is ready so
  abbrev Reply : ReadyData → Type 0
  Reply ready = Replies false ready ask (stand (Some world.shelf) (world.follows client)) out (stand_at after)

  -- the world replies so too
  run_for : (ready : ReadyData) → IsReadyThere one_view basis before.known after.known world roots current (need_of ask) ready → Reply ready
      → WasBlind basis before event out after ⊎ IsRunFor basis client world event out after
  run_for ready there replies =
      let it = asks_well one_view basis client before after world ask out ready roots current there replies in
      inr (it.0 ++ asked client ask ∷ [], it.1, happens (it.0 ++ asked client ask ∷ []) (ask, it.0, asks, it.2, refl), it.3, it.4)

  -- a reply of the session is one to an ask that is ready in the world
  replied : (other ready : ReadyData) → IsReadyThere one_view basis before.known after.known world roots current (need_of ask) other
      → IsReadyAs one_view basis before.known after.known world roots current (need_of ask) other ready → Reply ready
      → WasBlind basis before event out after ⊎ IsRunFor basis client world event out after
  replied other ready there (inl same) replies = run_for other there (subst (λ r. Reply r) same replies)
  replied other ready there (inr (may, inr (root, needs, is))) replies =
      let by = subst (λ r. Reply r) is replies in
      run_for other there (short_of_watch ask world.shelf (world.follows client) out after.shelf after.follows root needs by.0 by.1 other may)
  replied other ready there (inr (may, inl ((root, number, needed, shown, refused), is))) replies =
      by (exact_or_short ask world.shelf (world.follows client) out after.shelf after.follows (subst (λ r. Reply r) is replies))
    where
      by : ((next : ShelfNow) × (after.shelf ≡ Some next) × (answer ask None world.shelf (world.follows client) ≡ record { done = giving out after.follows; shelf = next }))
          ⊎ ((other : ReadyData) → MayRunOut other → Reply other) → WasBlind basis before event out after ⊎ IsRunFor basis client world event out after
      by (inl (next, left, exact)) =
          inl (ask, root, number, asks, needed, shown, (world.shelf, next, shows.shelf, left, ap (answer ask None world.shelf) (sym shows.follows) ∙ exact), refused)
      by (inr short) = run_for other there (short other may)

  ask_run : IsAnswered basis ask before.known (stand_at before) out after.known (stand_at after)
      → HasGone event out ⊎ WasBlind basis before event out after ⊎ IsRunFor basis client world event out after
  ask_run (ready, readies, replies) = by (stayed_reply ready ask (stand_at before) out (stand_at after) replies)
    where
      by : LeftList ask out ⊎ Replies false ready ask (stand_at before) out (stand_at after)
          → HasGone event out ⊎ WasBlind basis before event out after ⊎ IsRunFor basis client world event out after
      by (inl (at, shelf, goes)) = inl (ask, at, shelf, asks, goes)
      by (inr stays) =
          let it = readies_well one_view basis before.known after.known world roots current (need_of ask) ready readies in
          inr (replied it.0 ready it.1 it.2
          (subst (λ s. Replies false ready ask (stand s (world.follows client)) out (stand_at after)) shows.shelf
          (subst (λ f. Replies false ready ask (stand before.shelf f) out (stand_at after)) (sym shows.follows) stays)))

pub events_are_runs : HasOneView → (basis : Basis) → EventsAreRuns basis
events_are_runs one_view basis client before after (Idle root) out world shows (hands, does) current = inr (inr (idle_run one_view basis client before after root out world shows does current))
events_are_runs one_view basis client before after (Line line) out world shows (hands, (ask, asks, is)) current = ask_run one_view basis client before after (Line line) out world shows current (λ h it. it) ask asks is
events_are_runs one_view basis client before after Long out world shows (hands, (ask, asks, is)) current = ask_run one_view basis client before after Long out world shows current (λ h it. it) ask asks is
events_are_runs one_view basis client before after Binary out world shows (hands, (ask, asks, is)) current = ask_run one_view basis client before after Binary out world shows current (λ h it. it) ask asks is
events_are_runs one_view basis client before after End out world shows (hands, (ask, asks, is)) current = ask_run one_view basis client before after End out world shows current (λ h it. it) ask asks is
events_are_runs one_view basis client before after Fault out world shows (hands, (ask, asks, is)) current = ask_run one_view basis client before after Fault out world shows current (λ h it. it) ask asks is
