-- The account of a trigger: the views at which it was told, and the starts that succeeded.
use Rattle.std.proofs.Common.{◌≡◌, ◌≢◌, ℕ, Bool, true, false, ◌||◌, List, [], ◌∷◌, ◌++◌, map, bytes_eq, Option, Some, None, Ok, inl, inr, refl, ap, sym, subst, ◌∙◌, append-nil, append_assoc, codes, is_some, option_and_then}
use mathlib.Core.Bool.{false≢true}
use mathlib.Core.List.{IsPrefix}
use Rattle.std.specs.List.{AllByRecursion, list_any}
use Rattle.std.proofs.lemmas.Bool.Decides.{not_from_Decides}
use Rattle.std.proofs.lemmas.Slice.Eq.{bytes_eq-Decides}
use Rattle.std.proofs.lemmas.Option.{same_Some}
use Rattle.serde_json.specs.Data.{Data, Members, no_members}
use Rattle.serde_json.specs.Find.{get, get_member}
use Rattle.serde_json.proofs.Views.{get_member-put_other}
use Rattle.wq_clock.specs.Instance.{InstanceData}
use Rattle.wq_clock.specs.Run.{RunData, instance_of}
use Rattle.wq_code.specs.declared.raw.Raw.{Raw}
use Rattle.wq_follow.specs.Batch.{FollowerData, polled, told_up_to, untold}
use Rattle.wq_follow.specs.Definition.{known_keys, known_part, with_key, with_keys}
use Rattle.wq_follow.specs.Interval.{HasNoGenerators, IntervalsAdjoin, ToldData, told_at}
use Rattle.wq_follow.specs.Launcher.{LauncherData, TriedData}
use Rattle.wq_follow.specs.Missing.{NothingIsMissed, ViewsAreReached, end_of}
use Rattle.wq_follow.specs.Round.{Agrees, FiredData, Fires, TriggerData, failed, quiet, runs, short, started}
use Rattle.wq_follow.specs.Start.{OrderData, StartData, start_of}
use Rattle.wq_live.specs.Event.{passes_over}
use Rattle.wq_live.specs.declared.event.RootEvent.{RootEvent}
use Rattle.wq_query.specs.Query.{QueryData}
use Rattle.wq_reply.specs.Plan.{PlanData}
use Rattle.wq_query.specs.Reading.{asks as query_of, cursor_in}
use Rattle.wq_query.specs.Subscribed.{SubscriptionsArePlain, has_cursor, has_generator, subscribes, without_generators}
use Rattle.wq_registry.specs.ByName.{ByName}
use Rattle.wq_replay.specs.Rounds.{sent_note}
use Rattle.wq_replay.specs.StartLine.{tried_text}
use Rattle.wq_replay.specs.World.{SentData}
use Rattle.wq_session.specs.Round.{HaveTurns, TriggerTurnData, after_turns}
use Rattle.wq_record.specs.RecordData.{RecordData}
use Rattle.wq_view.specs.View.{IsViewOf, ViewData}
use Rattle.wq_headline.specs.Followers.{AreViewsOf, WereSent, telling, told_since}
use Rattle.wq_headline.specs.Triggers.{IsTriggered, MissNothing, TellAll, follower_after, start_if, start_line, starts_told, trigger_plan}
use Rattle.wq_headline.proofs.Accounts.{are_longer, are_more, end_more, of_whole, one_more, told_more}
use Rattle.wq_headline.proofs.Followed.{looks_of, reached}
use Rattle.wq_headline.proofs.Growth.{begins_itself, passes_go_on}
use Rattle.wq_headline.proofs.Sent.{SaysAll, Sent, says_first, says_later, sent_before, sent_both}

-- the batches that a trigger was told at views
abbrev pub told_all : PlanData → List ViewData → List ToldData
told_all plan views = told_at (map telling views) (untold plan)

-- one more batch
abbrev next_told : PlanData → List ViewData → ViewData → ToldData
next_told plan views view = record { batch = polled (follower_after plan (told_all plan views)) view; view = view }

all_more : (plan : PlanData) (views : List ViewData) (view : ViewData) → told_all plan (views ++ view ∷ []) ≡ told_all plan views ++ next_told plan views view ∷ []
all_more plan [] view = refl
all_more plan (v ∷ views) view = ap (λ l. record { batch = polled (untold plan) v; view = v } ∷ l) (told_more plan v.tick views view)

next_more : (plan : PlanData) (views : List ViewData) (view : ViewData) → follower_after plan (told_all plan (views ++ view ∷ []))
    ≡ told_up_to (polled (follower_after plan (told_all plan views)) view).now (follower_after plan (told_all plan views))
next_more plan [] view = refl
next_more plan (v ∷ views) view =
    ap (λ tick. told_up_to tick (untold plan))
    (ap (end_of v.tick) (told_more plan v.tick views view) ∙ end_more v.tick (told_since plan v.tick views) (one_more plan v.tick views view))

starts_more : (order : OrderData) (instance : InstanceData) (told : List ToldData) (t : ToldData)
    → starts_told order instance (told ++ t ∷ []) ≡ starts_told order instance told ++ start_if (t.batch).files (start_of order instance t.batch)
starts_more order instance [] t = append-nil (start_if (t.batch).files (start_of order instance t.batch))
starts_more order instance (first ∷ told) t =
    ap (λ l. start_if (first.batch).files (start_of order instance first.batch) ++ l) (starts_more order instance told t)
    ∙ sym (append_assoc (start_if (first.batch).files (start_of order instance first.batch)) (starts_told order instance told)
    (start_if (t.batch).files (start_of order instance t.batch)))

-- the facts of an account that a happening leaves or adds to
pub record Tally (run : RunData) (number : ℕ) (events : List RootEvent) (sent : List SentData) (t : TriggerData) : Type 0 where
  pub query : QueryData
  pub program : Option Raw
  pub asks : query_of (instance_of run number) t.object ≡ Ok query
  pub plain : HasNoGenerators (trigger_plan query program)
  pub views : List ViewData
  pub are : AreViewsOf (passes_over number events) views
  pub sends : Sent start_line (starts_told t.order (instance_of run number) (told_all (trigger_plan query program) views)) sent
  pub next : t.follower ≡ follower_after (trigger_plan query program) (told_all (trigger_plan query program) views)

module _ (run : RunData) (number : ℕ) where
  -- more events and more lines leave an account
  pub kept_tally : (events later : List RootEvent) (said sent : List SentData) (t after : TriggerData) → IsPrefix events later → after.order ≡ t.order → after.object ≡ t.object
      → after.follower ≡ t.follower → Tally run number events said t → Tally run number later (said ++ sent) after
  kept_tally events later said sent t after goes order object follower a = record {
    query = a.query;
    program = a.program;
    asks = ap (query_of (instance_of run number)) object ∙ a.asks;
    plain = a.plain;
    views = a.views;
    are = are_longer (passes_over number events) (passes_over number later) a.views (passes_go_on number events later goes) a.are;
    sends = subst (λ o. Sent start_line (starts_told o (instance_of run number) (told_all (trigger_plan a.query a.program) a.views)) (said ++ sent)) (sym order)
        (sent_before start_line (starts_told t.order (instance_of run number) (told_all (trigger_plan a.query a.program) a.views)) said sent a.sends);
    next = follower ∙ a.next;
  }

  -- a batch is told
  module _ (events : List RootEvent) (said sent : List SentData) (t after : TriggerData) (view : ViewData) (a : Tally run number events said t) where
    abbrev plan : PlanData
    plan = trigger_plan a.query a.program

    abbrev newest : ToldData
    newest = next_told plan a.views view

    abbrev starts_by : FollowerData → List StartData
    starts_by f = start_if (polled f view).files (start_of t.order (instance_of run number) (polled f view))

    starts : starts_told t.order (instance_of run number) (told_all plan (a.views ++ view ∷ []))
        ≡ starts_told t.order (instance_of run number) (told_all plan a.views) ++ starts_by t.follower
    starts =
        ap (starts_told t.order (instance_of run number)) (all_more plan a.views view)
        ∙ starts_more t.order (instance_of run number) (told_all plan a.views) newest
        ∙ ap (λ f. starts_told t.order (instance_of run number) (told_all plan a.views) ++ starts_by f) (sym a.next)

    pub told_tally : after.order ≡ t.order → after.object ≡ t.object → after.follower ≡ told_up_to (polled t.follower view).now t.follower
        → IsViewOf (passes_over number events) view → Sent start_line (starts_by t.follower) sent → Tally run number events (said ++ sent) after
    told_tally order object follower viewed were = record {
      query = a.query;
      program = a.program;
      asks = ap (query_of (instance_of run number)) object ∙ a.asks;
      plain = a.plain;
      views = a.views ++ view ∷ [];
      are = are_more (passes_over number events) a.views view a.are (of_whole (passes_over number events) view viewed);
      sends = subst (λ o. Sent start_line (starts_told o (instance_of run number) (told_all plan (a.views ++ view ∷ []))) (said ++ sent)) (sym order)
          (subst (λ l. Sent start_line l (said ++ sent)) (sym starts)
          (sent_both start_line (starts_told t.order (instance_of run number) (told_all plan a.views)) (starts_by t.follower) said sent a.sends were));
      next = follower ∙ ap (λ f. told_up_to (polled f view).now f) a.next ∙ sym (next_more plan a.views view);
    }

-- the starts that a launcher was given in a turn
abbrev pub tried_in : FiredData → List TriedData
tried_in (started run start) = record { start = start; run = Some run } ∷ []
tried_in (failed start) = record { start = start; run = None } ∷ []
tried_in _ = []

abbrev pub tried_of : List TriggerTurnData → List TriedData
tried_of [] = []
tried_of (turn ∷ turns) = tried_in turn.fired ++ tried_of turns

-- a launcher that is shown after a turn was shown before it
turn_tried : (fired : FiredData) (running : Option ℕ) (shown : Option LauncherData) (m : LauncherData) → Agrees fired running shown (Some m)
    → (l : LauncherData) × (shown ≡ Some l) × (m.tried ≡ l.tried ++ tried_in fired)
turn_tried fired running None m agrees = absurd cc
turn_tried (runs r) running (Some l) m agrees = (l, refl, ap (λ x. x.tried) (same_Some _ _ agrees.1) ∙ sym (append-nil l.tried))
turn_tried quiet running (Some l) m agrees = (l, refl, ap (λ x. x.tried) (same_Some _ _ agrees.1) ∙ sym (append-nil l.tried))
turn_tried short running (Some l) m agrees = (l, refl, ap (λ x. x.tried) (same_Some _ _ agrees.1) ∙ sym (append-nil l.tried))
turn_tried (started r start) running (Some l) m (free, inl (given, is)) =
    (l, refl, ap (λ x. x.tried) (same_Some _ _ is) ∙ ap (λ answer. l.tried ++ record { start = start; run = answer } ∷ []) (sym given))
turn_tried (started r start) running (Some l) m (free, inr none) = absurd cc
turn_tried (failed start) running (Some l) m (free, inl (given, is)) =
    (l, refl, ap (λ x. x.tried) (same_Some _ _ is) ∙ ap (λ answer. l.tried ++ record { start = start; run = answer } ∷ []) (sym given))
turn_tried (failed start) running (Some l) m (free, inr none) = absurd cc

module _ (instance : InstanceData) (view : ViewData) where
  turns_tried : (ts : ByName TriggerData) (turns : List TriggerTurnData) (shown : Option LauncherData) (left : LauncherData) → HaveTurns instance view ts shown turns (Some left)
      → (l : LauncherData) × (shown ≡ Some l) × (left.tried ≡ l.tried ++ tried_of turns)
  turns_tried [] [] shown left had = (left, sym had, sym (append-nil left.tried))
  turns_tried [] (u ∷ turns) shown left had = elim had [ ]
  turns_tried (t ∷ ts) [] shown left had = elim had [ ]
  turns_tried (t ∷ ts) (u ∷ turns) shown left (name, fires, (next, agrees, later)) =
      let behind = turns_tried ts turns next left later in
      let now = turn_tried u.fired (t.1).running shown behind.0 (subst (λ o. Agrees u.fired (t.1).running shown o) behind.1 agrees) in
      (now.0, now.1, behind.2 ∙ ap (λ l. l ++ tried_of turns) now.2 ∙ append_assoc (now.0).tried (tried_in u.fired) (tried_of turns))

  -- from a launcher that was given nothing
  pub round_tried : (ts : ByName TriggerData) (turns : List TriggerTurnData) (l left : LauncherData) → l.tried ≡ [] → HaveTurns instance view ts (Some l) turns (Some left)
      → left.tried ≡ tried_of turns
  round_tried ts turns l left none had =
      let all = turns_tried ts turns (Some l) left had in
      all.2 ∙ ap (λ x. x.tried ++ tried_of turns) (sym (same_Some _ _ all.1)) ∙ ap (λ tried. tried ++ tried_of turns) none

-- the line about a start that was tried
abbrev pub note_of : TriedData → SentData
note_of tried = sent_note (tried_text tried)

-- the accounts of triggers under names
abbrev pub Tallies : RunData → ℕ → List RootEvent → List SentData → ByName TriggerData → Type 0
Tallies run number events sent ts = AllByRecursion (λ x. Tally run number events sent x.1) ts

module _ (run : RunData) (number : ℕ) (events : List RootEvent) (said sent : List SentData) (view : ViewData) (viewed : IsViewOf (passes_over number events) view) where
  -- a turn, and the line about its start
  turn_tally : (fired : FiredData) (t after : TriggerData) → Fires (instance_of run number) view t fired after → Tally run number events said t
      → WereSent (map note_of (tried_in fired)) sent → Tally run number events (said ++ sent) after
  turn_tally (runs r) t after (busy, same) a were =
      kept_tally run number events events said sent t after (begins_itself events events refl) (ap (λ x. x.order) same) (ap (λ x. x.object) same) (ap (λ x. x.follower) same) a
  turn_tally quiet t after (none, same) a were =
      told_tally run number events said sent t after view a (ap (λ x. x.order) same) (ap (λ x. x.object) same) (ap (λ x. x.follower) same) viewed
      (subst (λ files. Sent start_line (start_if files (start_of t.order (instance_of run number) (polled t.follower view))) sent) (sym none) tt)
  turn_tally (started r start) t after ((some, is), same) a were =
      told_tally run number events said sent t after view a (ap (λ x. x.order) same) (ap (λ x. x.object) same) (ap (λ x. x.follower) same) viewed
      (by (polled t.follower view).files some)
    where
      by : (files : List RecordData) → files ≢ [] → Sent start_line (start_if files (start_of t.order (instance_of run number) (polled t.follower view))) sent
      by [] some = absurd (some refl)
      by (file ∷ files) some = subst (λ s. Sent start_line (s ∷ []) sent) is were
  turn_tally (failed start) t after (fits, same) a were =
      kept_tally run number events events said sent t after (begins_itself events events refl) (ap (λ x. x.order) same) (ap (λ x. x.object) same) (ap (λ x. x.follower) same) a
  turn_tally short t after (wants, same) a were =
      kept_tally run number events events said sent t after (begins_itself events events refl) (ap (λ x. x.order) same) (ap (λ x. x.object) same) (ap (λ x. x.follower) same) a

  -- all turns of a round
  pub turns_tally : (ts : ByName TriggerData) (turns : List TriggerTurnData) (shown left : Option LauncherData) → HaveTurns (instance_of run number) view ts shown turns left
      → Tallies run number events said ts → SaysAll note_of (tried_of turns) sent → Tallies run number events (said ++ sent) (after_turns turns)
  turns_tally [] [] shown left had all into = tt
  turns_tally [] (u ∷ turns) shown left had all into = elim had [ ]
  turns_tally (t ∷ ts) [] shown left had all into = elim had [ ]
  turns_tally (t ∷ ts) (u ∷ turns) shown left (name, fires, (next, agrees, later)) (a, all) into = (
    turn_tally u.fired t.1 u.after fires a (says_first note_of (tried_in u.fired) (tried_of turns) sent into),
    turns_tally ts turns next left later all (says_later note_of (tried_in u.fired) (tried_of turns) sent into),
  )

-- a key that is none of these stays out
absent : (q : List ℕ) (keys : List (List ℕ)) (d : Data) (ms : Members) → list_any (bytes_eq q) keys ≡ false → get_member q (with_keys keys d ms) ≡ get_member q ms
absent q [] d ms none = refl
absent q (key ∷ keys) d ms none = by (bytes_eq q key) refl none (absent q keys d (with_key key (get key d) ms))
  where
    put_other : (o : Option Data) → bytes_eq q key ≡ false → get_member q (with_key key o ms) ≡ get_member q ms
    put_other None other = refl
    put_other (Some e) other = get_member-put_other q key e ms (not_from_Decides (bytes_eq q key) (bytes_eq-Decides q key) other)

    by : (b : Bool) → bytes_eq q key ≡ b → (b || list_any (bytes_eq q) keys) ≡ false
        → (list_any (bytes_eq q) keys ≡ false → get_member q (with_keys keys d (with_key key (get key d) ms)) ≡ get_member q (with_key key (get key d) ms))
        → get_member q (with_keys keys d (with_key key (get key d) ms)) ≡ get_member q ms
    by true is none rest = absurd (false≢true (sym none))
    by false other none rest = rest none ∙ put_other (get key d) other

abbrev is_there : Option Data → Bool
is_there o = is_some o

abbrev cursor_there : Option Data → Bool
cursor_there o = is_some (option_and_then cursor_in o)

-- the query of a trigger's object has no generators
pub known_plain : SubscriptionsArePlain → (instance : InstanceData) (d : Data) (query : QueryData) (program : Option Raw) → query_of instance (known_part d) ≡ Ok query
    → HasNoGenerators (trigger_plan query program)
known_plain plain instance d query program is = let h = plain instance (known_part d) query subscribed in (h.suffix, h.path, h.glob)
  where
    no_generator : has_generator (known_part d) ≡ false
    no_generator =
        ap (λ o. is_there o || is_there (get (codes "path") (known_part d)) || is_there (get (codes "glob") (known_part d))) (absent (codes "suffix") known_keys d no_members refl)
        ∙ ap (λ o. is_there o || is_there (get (codes "glob") (known_part d))) (absent (codes "path") known_keys d no_members refl)
        ∙ ap is_there (absent (codes "glob") known_keys d no_members refl)

    no_cursor : has_cursor (known_part d) ≡ false
    no_cursor = ap cursor_there (absent (codes "since") known_keys d no_members refl)

    subscribed : subscribes instance (known_part d) ≡ Ok query
    subscribed =
        ap (λ asked. without_generators asked (has_generator (known_part d)) (has_cursor (known_part d))) is
        ∙ ap (λ b. without_generators (Ok query) b (has_cursor (known_part d))) no_generator
        ∙ ap (λ b. without_generators (Ok query) false b) no_cursor

module _ (intervals : IntervalsAdjoin) (missed : NothingIsMissed) (views_are_reached : ViewsAreReached) (run : RunData) (number : ℕ) (events : List RootEvent)
    (sent : List SentData) where
  tell_all : (plan : PlanData) → HasNoGenerators plan → (views : List ViewData) → AreViewsOf (passes_over number events) views → TellAll plan (told_all plan views)
  tell_all of plain [] are = tt
  tell_all of plain (v ∷ views) are = (refl, intervals (untold of) v.tick (map telling views) plain (reached views_are_reached (passes_over number events) views are.1))

  miss_nothing : (plan : PlanData) → HasNoGenerators plan → (views : List ViewData) → AreViewsOf (passes_over number events) views
      → MissNothing plan (passes_over number events) (told_all plan views)
  miss_nothing of plain [] are = tt
  miss_nothing of plain (v ∷ views) are = λ view r viewed among matches since until.
      missed (untold of) v.tick (passes_over number events) (map telling views) view plain (looks_of (passes_over number events) views are.1) viewed r among matches since until

  triggered_one : (t : TriggerData) → Tally run number events sent t → IsTriggered run number events sent t
  triggered_one t a = record {
    query = a.query;
    program = a.program;
    asks = a.asks;
    plan = trigger_plan a.query a.program;
    planned = refl;
    views = a.views;
    are = a.are;
    told = told_all (trigger_plan a.query a.program) a.views;
    is = refl;
    sends = a.sends;
    exact = tell_all (trigger_plan a.query a.program) a.plain a.views a.are;
    once = miss_nothing (trigger_plan a.query a.program) a.plain a.views a.are;
    next = a.next;
  }

  pub all_triggered : (ts : ByName TriggerData) → Tallies run number events sent ts → AllByRecursion (λ x. IsTriggered run number events sent x.1) ts
  all_triggered [] all = tt
  all_triggered (t ∷ ts) all = (triggered_one t.1 all.0, all_triggered ts all.1)
