-- The shelf of a world is the result of the accepted calls.
use Rattle.std.proofs.Common.{◌≡◌, ℕ, ℤ, false, List, [], ◌∷◌, ◌++◌, Option, Some, None, Result, Ok, Err, inl, inr, refl, sym, ap, subst, ◌∙◌}
use Rattle.std.proofs.lemmas.Option.{same_Some}
use Rattle.wq_clock.specs.Instance.{InstanceData}
use Rattle.wq_clock.specs.Run.{instance_of}
use Rattle.wq_follow.specs.Launcher.{LauncherData}
use Rattle.wq_live.specs.Event.{number_of}
use Rattle.wq_live.specs.Table.{RootView, TableData, root_by_text}
use Rattle.wq_crawl.specs.declared.place.Place.{Place}
use Rattle.wq_crawl.specs.declared.place.Place.TheVariants.{Shown, Full, Free}
use Rattle.wq_registry.specs.History.{adds_root, after_all}
use Rattle.wq_registry.specs.Shelf.{blank}
use Rattle.wq_session.specs.Out.{MayRefuse}
use Rattle.wq_session.specs.Accepted.{Accepts, CallNow, AnswersAreCalls}
use Rattle.wq_session.specs.Crawl.{crawl_refusal}
use Rattle.wq_session.specs.Desk.{StandData, stand}
use Rattle.wq_crawl.specs.Views.{ReadyData}
use Rattle.wq_session.specs.Desk.{Replies}
use Rattle.wq_session.proofs.Held.{shown_answer}
use Rattle.wq_live.specs.declared.event.RootEvent.{RootEvent}
use Rattle.wq_crawl.specs.declared.fault.CrawlFault.TheVariants.{NoMemory}
use Rattle.wq_session.specs.Need.{need_of}
use Rattle.wq_session.specs.Out.{OutData}
use Rattle.wq_ask.specs.declared.ask.Ask.{Ask}
use Rattle.wq_session.specs.Round.{IsRound, RoundsAreCalls, turn_calls}
use Rattle.wq_crawl.specs.At.{AtData}
use Rattle.wq_session.specs.At.{ShelfNow}
use Rattle.wq_session.proofs.Reaching.{after_both}
use Rattle.wq_crawl.specs.declared.fault.CrawlFault.{CrawlFault}
use Rattle.wq_view.specs.Listing.{PassData}
use Rattle.wq_view.specs.View.{ViewData}
use Rattle.wq_replay.specs.Accepted.{AcceptsAt, AcceptsOf, AcceptsRound, AcceptsUnless, RunsWith, ShelvesAreCalls}
use Rattle.wq_crawl.specs.Meets.{MeetsAt, MeetsFor, at_end, ending, fault_for, looked}
use Rattle.wq_replay.specs.Gets.{RepliesIn}
use Rattle.wq_replay.specs.Playing.{Happens, Runs}
use Rattle.wq_replay.specs.Rounds.{RoundsFound}
use Rattle.wq_replay.specs.World.{Crawls, CrawlsAt, HappeningData, crawl, watching, asked, idle, round, ended, WatchesAt, SentData, Starts, WorldData, at_events, new_world, root_text}

-- a crawl leaves the shelf
at_number : (number : Option ℕ) (world : WorldData) (root : List ℕ) (pass : PassData) (after : WorldData)
    → CrawlsAt number world root pass after → after.shelf ≡ world.shelf
at_number None world root pass after is = ap (λ w. w.shelf) is
at_number (Some number) world root pass after (inl (events, passes, is)) = ap (λ w. w.shelf) is
at_number (Some number) world root pass after (inr (spent, is)) = ap (λ w. w.shelf) is

crawls : (world : WorldData) (root : List ℕ) (seen : Result PassData CrawlFault) (after : WorldData)
    → Crawls world root seen after → after.shelf ≡ world.shelf
crawls world root (Ok pass) after goes = at_number (number_of root world.events) world root pass after goes
crawls world root (Err fault) after is = ap (λ w. w.shelf) is

-- and so does a watching
starts : (world : WorldData) (root : List ℕ) (seen : Result PassData CrawlFault) (after : WorldData)
    → Starts world root seen after → after.shelf ≡ world.shelf
starts world root (Ok pass) after is = ap (λ w. w.shelf) is
starts world root (Err fault) after is = ap (λ w. w.shelf) is

watches : (place : Place) (world : WorldData) (root : List ℕ) (seen : Result PassData CrawlFault) (after : WorldData)
    → WatchesAt place world root seen after → after.shelf ≡ world.shelf
watches (Shown number) world root seen after is = ap (λ w. w.shelf) is
watches Full world root seen after is = ap (λ w. w.shelf) is
watches Free world root seen after goes = starts world root seen after goes

module _ (answers_are_calls : AnswersAreCalls) (rounds_are_calls : RoundsAreCalls) where
  -- an ask that was answered at a root
  answered_at : (at : Option AtData) (ready : ReadyData) (later : List RootEvent) (client : ℤ) (world : WorldData) (ask : Ask) (out : OutData) (after : WorldData)
      → ready ≡ Ok at → RepliesIn client ready (at_events later world) ask out after
      → (calls : List CallNow) × Accepts false ask at world.shelf (world.follows client) out calls × (after.shelf ≡ after_all calls world.shelf)
  answered_at at ready later client world ask out after is (shelf, left, replies, same) =
      let answers = subst (λ (r : ReadyData). Replies false r ask (stand (Some world.shelf) (world.follows client)) out (stand (Some shelf) left)) is replies in
      let it = answers_are_calls false ask at world.shelf (world.follows client) out shelf left
      (shown_answer false ask at (world.follows client) left out world.shelf shelf answers) in
      (it.0, it.1, ap (λ w. w.shelf) same ∙ it.2)

  -- an ask that was refused before
  refused_by : (fault : CrawlFault) (ready : ReadyData) (later : List RootEvent) (client : ℤ) (world : WorldData) (ask : Ask) (out : OutData) (after : WorldData)
      → ready ≡ Err fault → RepliesIn client ready (at_events later world) ask out after → MayRefuse (crawl_refusal fault) out × (after.shelf ≡ world.shelf)
  refused_by fault ready later client world ask out after is (shelf, left, replies, same) =
      let it = subst (λ (r : ReadyData). Replies false r ask (stand (Some world.shelf) (world.follows client)) out (stand (Some shelf) left)) is replies in
      (it.0, ap (λ w. w.shelf) same ∙ same_Some _ _ (ap (λ (s : StandData). s.shelf) it.1))

  -- the reply to an ask
  ends : (number : Option ℕ) (table : TableData) (ready : ReadyData) (later : List RootEvent) (client : ℤ) (world : WorldData) (ask : Ask) (out : OutData)
      (after : WorldData) → MeetsAt number (need_of ask) world.run table world.events ready later
      → RepliesIn client ready (at_events later world) ask out after
      → (calls : List CallNow) × AcceptsAt number table client world ask out calls × (after.shelf ≡ after_all calls world.shelf)
  ends None table ready later client world ask out after (is, same) replies =
      answered_at (looked (need_of ask) world.run table) ready later client world ask out after is replies
  ends (Some number) table ready later client world ask out after (inl (is, same)) replies =
      let it = answered_at (Some (at_end world.run number)) ready later client world ask out after is replies in
      (it.0, inl it.1, it.2)
  ends (Some number) table ready later client world ask out after (inr (is, same)) replies =
      let it = refused_by NoMemory ready later client world ask out after is replies in
      ([], inr (it.0, refl), it.1)

  gets_for : (fault : Option CrawlFault) (table : TableData) (ready : ReadyData) (later : List RootEvent) (client : ℤ) (world : WorldData) (ask : Ask)
      (out : OutData) (after : WorldData) → MeetsFor fault (need_of ask) world.run table world.events ready later
      → RepliesIn client ready (at_events later world) ask out after
      → (calls : List CallNow) × AcceptsUnless fault table client world ask out calls × (after.shelf ≡ after_all calls world.shelf)
  gets_for None table ready later client world ask out after meets replies =
      ends (ending (need_of ask) table) table ready later client world ask out after meets replies
  gets_for (Some fault) table ready later client world ask out after (is, same) replies =
      let it = refused_by fault ready later client world ask out after is replies in
      ([], (it.0, refl), it.1)

  -- the result of a round, on a shelf that calls lead to
  pub round_calls : (instance : InstanceData) (view : ViewData) (shelf : ShelfNow) (earlier : List CallNow) (sockname : List ℕ) (shown : Option LauncherData)
      (after : ShelfNow) (left : Option LauncherData) → shelf ≡ after_all earlier (blank sockname) → (had : IsRound instance view shelf shown after left)
      → after ≡ after_all (turn_calls instance.root had.turns) shelf
  round_calls instance view shelf earlier sockname shown after left leads had =
      subst (λ (s : ShelfNow). (had : IsRound instance view s shown after left) → after ≡ after_all (turn_calls instance.root had.turns) s) (sym leads)
      (λ had. rounds_are_calls instance view earlier sockname shown after left had) had

  -- a round
  rounds_at : (root : Option RootView) (answers : List (Option ℕ)) (world : WorldData) (sent : List SentData) (after : WorldData) (earlier : List CallNow) (sockname : List ℕ)
      → world.shelf ≡ after_all earlier (blank sockname) → RoundsFound root answers world sent after
      → (calls : List CallNow) × AcceptsRound root answers world sent calls × (after.shelf ≡ after_all calls world.shelf)
  rounds_at None answers world sent after earlier sockname leads (none, is) = ([], refl, ap (λ w. w.shelf) is)
  rounds_at (Some root) answers world sent after earlier sockname leads had = (
    turn_calls root.number (had.round).turns,
    (after, had, refl),
    ap (λ w. w.shelf) had.is ∙ round_calls (instance_of world.run root.number) root.view world.shelf earlier sockname _ had.shelf _ leads had.round,
  )

  -- a happening, on a shelf that calls lead to
  pub does : (world : WorldData) (happening : HappeningData) (sent : List SentData) (after : WorldData) (earlier : List CallNow) (sockname : List ℕ)
      → world.shelf ≡ after_all earlier (blank sockname) → Happens world happening sent after
      → (calls : List CallNow) × AcceptsOf world happening sent calls × (after.shelf ≡ after_all calls world.shelf)
  does world (crawl root seen) sent after earlier sockname leads (none, goes) = ([], refl, crawls world root seen after goes)
  does world (watching root seen) sent after earlier sockname leads (none, (place, is, goes)) = ([], refl, watches place world root seen after goes)
  does world (asked client ask) sent after earlier sockname leads (out, (ready, later, (table, is, meets), replies), same) =
      let it = gets_for (fault_for (need_of ask) table world.refused) table ready later client world ask out after meets replies in
      (it.0, (out, (table, is, it.1), same), it.2)
  does world (idle client root) sent after earlier sockname leads (out, (table, left, is, idles, same), lines) = ([], refl, ap (λ w. w.shelf) same)
  does world (round root answers) sent after earlier sockname leads (table, is, goes) =
      let it = rounds_at (root_by_text root table) answers world sent after earlier sockname leads goes in
      (it.0, (table, is, it.1), it.2)
  does world (ended run) sent after earlier sockname leads (none, is) = ([], refl, ap (λ w. w.shelf) is)

  -- happenings in turn
  runs : (world : WorldData) (happenings : List HappeningData) (sent : List SentData) (after : WorldData) (earlier : List CallNow) (sockname : List ℕ)
      → world.shelf ≡ after_all earlier (blank sockname) → Runs world happenings sent after
      → (calls : List CallNow) × RunsWith world happenings sent after calls × (after.shelf ≡ after_all calls world.shelf)
  runs world [] sent after earlier sockname leads (none, is) = ([], (none, is, refl), ap (λ w. w.shelf) is)
  runs world (happening ∷ later) sent after earlier sockname leads (next, first, rest, now, is, goes) =
      let one = does world happening first next earlier sockname leads now in
      let more = runs next later rest after (earlier ++ one.0) sockname
      (one.2 ∙ ap (after_all one.0) leads ∙ sym (after_both earlier one.0 (blank sockname))) goes in (
        one.0 ++ more.0,
        (next, first, rest, one.0, more.0, now, one.1, one.2, is, refl, more.1),
        more.2 ∙ ap (after_all more.0) one.2 ∙ sym (after_both one.0 more.0 world.shelf),
      )

  -- the law
  pub shelves_are_calls : ShelvesAreCalls
  shelves_are_calls run sockname happenings sent after goes =
      runs (new_world run sockname) happenings sent after (adds_root root_text 1 ∷ []) sockname refl goes
