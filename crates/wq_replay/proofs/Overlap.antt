-- A trigger whose command runs is not started again.
use Rattle.std.proofs.Common.{◌≡◌, ◌≢◌, ℕ, ℤ, Bool, true, false, not, ◌||◌, nat_eq, if◌then◌else◌, List, [], ◌∷◌, ◌++◌, Option, Some, None, is_some, Result, Ok, Err, inl, inr, refl, sym, ap, subst, ◌∙◌}
use Rattle.std.specs.List.{list_any}
use Rattle.std.proofs.lemmas.Bool.{eqb-true}
use Rattle.wq_clock.specs.Run.{instance_of}
use Rattle.wq_crawl.specs.declared.fault.CrawlFault.{CrawlFault}
use Rattle.wq_crawl.specs.declared.place.Place.{Place}
use Rattle.wq_crawl.specs.declared.place.Place.TheVariants.{Shown, Full, Free}
use Rattle.wq_live.specs.Event.{number_of}
use Rattle.wq_live.specs.Table.{RootView, root_by_text}
use Rattle.wq_registry.specs.ByName.{under}
use Rattle.wq_registry.specs.Change.{later}
use Rattle.wq_registry.specs.History.{adds_root, after_all}
use Rattle.wq_registry.specs.Shelf.{blank, triggers_of}
use Rattle.wq_session.specs.Need.{need_of}
use Rattle.wq_session.specs.Out.{OutData}
use Rattle.wq_ask.specs.declared.ask.Ask.{Ask}
use Rattle.wq_session.specs.Accepted.{AnswersAreCalls, CallNow}
use Rattle.wq_session.specs.Round.{RoundsAreCalls, after_turns, turn_calls}
use Rattle.wq_session.specs.Trigger.{run_in, trigger_called}
use Rattle.wq_session.proofs.Reaching.{after_both}
use Rattle.wq_view.specs.Listing.{PassData}
use Rattle.wq_replay.specs.Accepted.{AcceptsAt, AcceptsFor, AcceptsUnless}
use Rattle.wq_crawl.specs.Meets.{ending, fault_for}
use Rattle.wq_replay.specs.Gets.{Gets}
use Rattle.wq_replay.specs.Overlap.{Meanwhile, HasTrigger, RunsDoNotOverlap, StartsTrigger}
use Rattle.wq_replay.specs.Playing.{Happens}
use Rattle.wq_replay.specs.Rounds.{HasRound, RoundsFound}
use Rattle.wq_replay.specs.Runs.{other_runs}
use Rattle.wq_replay.specs.World.{Crawls, CrawlsAt, HappeningData, crawl, watching, asked, idle, round, ended, SentData, Starts, WatchesAt, WorldData, root_text}
use Rattle.wq_replay.proofs.Shelves.{does, round_calls, shelves_are_calls}
use Rattle.wq_replay.proofs.KeptRuns.{accepted_keep, run_at}
use Rattle.wq_replay.proofs.Turns.{after_round, no_turns, put_other, turns_go, turns_pass, turns_start}

-- the runs of a world at a happening that is no round and no end of a run
at_number : (number : Option ℕ) (world : WorldData) (root : List ℕ) (pass : PassData) (after : WorldData)
    → CrawlsAt number world root pass after → after.runs ≡ world.runs
at_number None world root pass after is = ap (λ w. w.runs) is
at_number (Some number) world root pass after (inl (events, passes, is)) = ap (λ w. w.runs) is
at_number (Some number) world root pass after (inr (spent, is)) = ap (λ w. w.runs) is

crawls : (world : WorldData) (root : List ℕ) (seen : Result PassData CrawlFault) (after : WorldData) → Crawls world root seen after → after.runs ≡ world.runs
crawls world root (Ok pass) after goes = at_number (number_of root world.events) world root pass after goes
crawls world root (Err fault) after is = ap (λ w. w.runs) is

starts : (world : WorldData) (root : List ℕ) (seen : Result PassData CrawlFault) (after : WorldData) → Starts world root seen after → after.runs ≡ world.runs
starts world root (Ok pass) after is = ap (λ w. w.runs) is
starts world root (Err fault) after is = ap (λ w. w.runs) is

watches : (place : Place) (world : WorldData) (root : List ℕ) (seen : Result PassData CrawlFault) (after : WorldData)
    → WatchesAt place world root seen after → after.runs ≡ world.runs
watches (Shown number) world root seen after is = ap (λ w. w.runs) is
watches Full world root seen after is = ap (λ w. w.runs) is
watches Free world root seen after goes = starts world root seen after goes

gets : (client : ℤ) (world : WorldData) (ask : Ask) (out : OutData) (after : WorldData) → Gets client world ask out after
    → after.runs ≡ world.runs
gets client world ask out after (ready, later, meets, (shelf, left, replies, is)) = ap (λ w. w.runs) is

-- a run goes on when another one has ended
other_ended : (run other : ℕ) (running : List ℕ) → other ≢ run → list_any (λ r. nat_eq run r) running ≡ true
    → list_any (λ r. nat_eq run r) (other_runs other running) ≡ true
other_ended run other [] differ goes = goes
other_ended run other (r ∷ running) differ goes = by (nat_eq run r) (nat_eq other r) refl refl goes (other_ended run other running differ)
  where
    by : (b o : Bool) → nat_eq run r ≡ b → nat_eq other r ≡ o → (b || list_any (λ r. nat_eq run r) running) ≡ true
        → (list_any (λ r. nat_eq run r) running ≡ true → list_any (λ r. nat_eq run r) (other_runs other running) ≡ true)
        → list_any (λ r. nat_eq run r) (if not o then r ∷ other_runs other running else other_runs other running) ≡ true
    by true true is too goes rest = absurd (differ (eqb-true other r too ∙ sym (eqb-true run r is)))
    by true false is too goes rest = ap (λ b. b || list_any (λ r. nat_eq run r) (other_runs other running)) is
    by false true is too goes rest = rest goes
    by false false is too goes rest = ap (λ b. b || list_any (λ r. nat_eq run r) (other_runs other running)) is ∙ rest goes

-- the command of a trigger runs: calls led to the shelf, on which the trigger has this run, and the run goes on
record IsRunning (root : ℕ) (name : List ℕ) (run : ℕ) (sockname : List ℕ) (world : WorldData) : Type 0 where
  calls : List CallNow
  leads : world.shelf ≡ after_all calls (blank sockname)
  has : run_at root name world.shelf ≡ Some run
  goes : list_any (λ r. nat_eq run r) world.runs ≡ true

module _ (answers_are_calls : AnswersAreCalls) (rounds_are_calls : RoundsAreCalls) (root : ℕ) (name : List ℕ) (run : ℕ) (sockname : List ℕ) where
  -- an ask keeps the run of a trigger that is there
  ask_keeps : (client : ℤ) (world : WorldData) (ask : Ask) (out : OutData) (earlier calls : List CallNow) → world.shelf ≡ after_all earlier (blank sockname)
      → AcceptsFor client world ask out calls → is_some (trigger_called root name (after_all calls world.shelf)) ≡ true
      → run_at root name (after_all calls world.shelf) ≡ run_at root name world.shelf
  ask_keeps client world ask out earlier calls leads (table, is, accepts) there =
      unless (fault_for (need_of ask) table world.refused) accepts
    where
      nothing : calls ≡ [] → run_at root name (after_all calls world.shelf) ≡ run_at root name world.shelf
      nothing none = ap (λ cs. run_at root name (after_all cs world.shelf)) none

      at : (number : Option ℕ) → AcceptsAt number table client world ask out calls → run_at root name (after_all calls world.shelf) ≡ run_at root name world.shelf
      at None accepts = accepted_keep root name sockname ask _ world.shelf earlier (world.follows client) out calls leads accepts there
      at (Some number) (inl accepts) = accepted_keep root name sockname ask _ world.shelf earlier (world.follows client) out calls leads accepts there
      at (Some number) (inr (may, none)) = nothing none

      unless : (fault : Option CrawlFault) → AcceptsUnless fault table client world ask out calls → run_at root name (after_all calls world.shelf) ≡ run_at root name world.shelf
      unless None accepts = at (ending (need_of ask) table) accepts
      unless (Some fault) (may, none) = nothing none

  -- a round of a root
  round_keeps : (other : RootView) (answers : List (Option ℕ)) (world : WorldData) (sent : List SentData) (next : WorldData) → IsRunning root name run sockname world
      → HasRound (instance_of world.run other.number) other.view answers world sent next
      → (run_at root name next.shelf ≡ Some run) × (list_any (λ r. nat_eq run r) next.runs ≡ true)
  round_keeps other answers world sent next is had = (
    ap (λ w. run_at root name w.shelf) had.is ∙ by (nat_eq root other.number) refl,
    ap (λ w. list_any (λ r. nat_eq run r) w.runs) had.is
        ∙ turns_go (instance_of world.run other.number) other.view run (triggers_of other.number world.shelf) (had.round).turns _ _ is.goes (had.round).had,
  )
    where
      by : (b : Bool) → nat_eq root other.number ≡ b → run_at root name had.shelf ≡ Some run
      by true same =
          let number = eqb-true root other.number same in
          ap (λ n. run_at n name had.shelf) number
          ∙ after_round other.number name run (had.round).turns world.shelf had.shelf (had.round).is
          (no_turns (instance_of world.run other.number) other.view world.shelf (had.round).turns _ _ (had.round).had)
          (turns_pass (instance_of world.run other.number) other.view name run (triggers_of other.number world.shelf) (had.round).turns _ _
          (ap (λ n. run_at n name world.shelf) (sym number) ∙ is.has) is.goes (had.round).had).0
      by false differ =
          ap (run_at root name) (had.round).is
          ∙ ap (λ ts. run_in (under name ts)) (put_other root other.number (after_turns (had.round).turns) (world.shelf).roots differ)
          ∙ is.has

  -- any happening but the end of the run
  step_keeps : (world : WorldData) (happening : HappeningData) (sent : List SentData) (next : WorldData) → IsRunning root name run sockname world
      → Happens world happening sent next → happening ≢ ended run → HasTrigger root name next
      → (run_at root name next.shelf ≡ Some run) × (list_any (λ r. nat_eq run r) next.runs ≡ true)
  step_keeps world (crawl at seen) sent next is (none, goes) other there =
      let same = (does answers_are_calls rounds_are_calls world (crawl at seen) sent next is.calls sockname is.leads (none, goes)) in
      let shelf : next.shelf ≡ world.shelf = same.2 ∙ ap (λ cs. after_all cs world.shelf) same.1 in
      (ap (run_at root name) shelf ∙ is.has, ap (λ r. list_any (λ x. nat_eq run x) r) (crawls world at seen next goes) ∙ is.goes)
  step_keeps world (watching at seen) sent next is (none, (place, found, goes)) other there =
      let same = (does answers_are_calls rounds_are_calls world (watching at seen) sent next is.calls sockname is.leads (none, (place, found, goes))) in
      let shelf : next.shelf ≡ world.shelf = same.2 ∙ ap (λ cs. after_all cs world.shelf) same.1 in
      (ap (run_at root name) shelf ∙ is.has, ap (λ r. list_any (λ x. nat_eq run x) r) (watches place world at seen next goes) ∙ is.goes)
  step_keeps world (asked client ask) sent next is (out, got, same) other there =
      let it = does answers_are_calls rounds_are_calls world (asked client ask) sent next is.calls sockname is.leads (out, got, same) in (
        ap (run_at root name) it.2
            ∙ ask_keeps client world ask (it.1).0 is.calls it.0 is.leads (it.1).1 (ap (λ s. is_some (trigger_called root name s)) (sym it.2) ∙ there)
            ∙ is.has,
        ap (λ r. list_any (λ x. nat_eq run x) r) (gets client world ask out next got) ∙ is.goes,
      )
  step_keeps world (idle client at) sent next is (out, (table, left, found, idles, same), lines) other there =
      (ap (λ w. run_at root name w.shelf) same ∙ is.has, ap (λ w. list_any (λ x. nat_eq run x) w.runs) same ∙ is.goes)
  step_keeps world (round at answers) sent next is (table, found, goes) other there = by (root_by_text at table) goes
    where
      by : (shown : Option RootView) → RoundsFound shown answers world sent next
          → (run_at root name next.shelf ≡ Some run) × (list_any (λ r. nat_eq run r) next.runs ≡ true)
      by None (none, same) = (ap (λ w. run_at root name w.shelf) same ∙ is.has, ap (λ w. list_any (λ x. nat_eq run x) w.runs) same ∙ is.goes)
      by (Some shown) had = round_keeps shown answers world sent next is had
  step_keeps world (ended r) sent next is (none, same) other there = (
    ap (λ w. run_at root name w.shelf) same ∙ is.has,
    ap (λ w. list_any (λ x. nat_eq run x) w.runs) same ∙ other_ended run r world.runs (λ n. other (ap ended n)) is.goes,
  )

  -- happenings in turn
  goes_keep : (world : WorldData) (happenings : List HappeningData) (after : WorldData) → IsRunning root name run sockname world
      → Meanwhile root name run world happenings after → IsRunning root name run sockname after
  goes_keep world [] after is same = subst (IsRunning root name run sockname) (sym same) is
  goes_keep world (happening ∷ happenings) after is (sent, next, now, other, there, later) =
      let kept = step_keeps world happening sent next is now other there in
      let led = does answers_are_calls rounds_are_calls world happening sent next is.calls sockname is.leads now in
      goes_keep next happenings after (record {
        calls = is.calls ++ led.0;
        leads = led.2 ∙ ap (after_all led.0) is.leads ∙ sym (after_both is.calls led.0 (blank sockname));
        has = kept.0;
        goes = kept.1;
      }) later

  -- after a start the command runs
  start_runs : (world after : WorldData) (earlier : List CallNow) → world.shelf ≡ after_all earlier (blank sockname)
      → StartsTrigger root name run world after → IsRunning root name run sockname after
  start_runs world after earlier leads (view, answers, sent, start, had, is) =
      let instance = instance_of world.run root in
      let starts = turns_start instance view name run start (triggers_of root world.shelf) (had.round).turns _ _ (had.round).had is in
      let led = round_calls answers_are_calls rounds_are_calls instance view world.shelf earlier sockname _ had.shelf _ leads had.round in
      record {
        calls = earlier ++ turn_calls root (had.round).turns;
        leads = ap (λ w. w.shelf) had.is ∙ led ∙ ap (after_all (turn_calls root (had.round).turns)) leads
            ∙ sym (after_both earlier (turn_calls root (had.round).turns) (blank sockname));
        has = ap (λ w. run_at root name w.shelf) had.is
            ∙ after_round root name run (had.round).turns world.shelf had.shelf (had.round).is
            (no_turns instance view world.shelf (had.round).turns _ _ (had.round).had) starts.0;
        goes = ap (λ w. list_any (λ r. nat_eq run r) w.runs) had.is ∙ starts.1;
      }

  -- and no round starts it
  not_started : (world after : WorldData) (other : ℕ) → IsRunning root name run sockname world → StartsTrigger root name other world after → ⊥
  not_started world after other is (view, answers, sent, start, had, starts) =
      (turns_pass (instance_of world.run root) view name run (triggers_of root world.shelf) (had.round).turns _ _ is.has is.goes (had.round).had).1
      other start starts

-- the law
pub runs_do_not_overlap : AnswersAreCalls → RoundsAreCalls → RunsDoNotOverlap
runs_do_not_overlap answers_are_calls rounds_are_calls server sockname earlier later sent world first last after root name run other plays begins goes starts =
    let led = shelves_are_calls answers_are_calls rounds_are_calls server sockname earlier sent world plays in
    not_started answers_are_calls rounds_are_calls root name run sockname last after other
    (goes_keep answers_are_calls rounds_are_calls root name run sockname first later last
    (start_runs answers_are_calls rounds_are_calls root name run sockname world first (adds_root root_text 1 ∷ led.0) led.2 begins) goes) starts
