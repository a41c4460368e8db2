-- Each trigger on the shelf of a world has an account.
use Rattle.std.proofs.Common.{◌≡◌, ℕ, Bool, true, false, not, cond, nat_eq, bytes_eq, List, [], ◌∷◌, ◌++◌, map, filter, Option, Some, None, option_map, Result, Ok, Err, inl, inr, refl, ap, sym, subst, ◌∙◌, append-nil, append_assoc, codes}
use mathlib.Core.List.{IsPrefix}
use Rattle.std.specs.List.{AllByRecursion, list_any}
use Rattle.std.proofs.lemmas.List.Elements.{All-from_recursion}
use Rattle.std.proofs.lemmas.Option.{same_Some}
use Rattle.serde_json.specs.Data.{Data}
use Rattle.serde_json.specs.Find.{get}
use Rattle.serde_json.specs.View.{view as data_of}
use Rattle.wq_base.proofs.Fault.{or_its_fault-ok, or_own_fault-ok, unless_fault-ok}
use Rattle.wq_base.proofs.Facts.{all_both, all_so}
use Rattle.wq_crawl.specs.Need.{NeedData, crawl as crawl_of, look, none, unwatch, watch}
use Rattle.wq_session.specs.Need.{need_of}
use Rattle.wq_session.specs.Out.{OutData}
use Rattle.wq_ask.specs.declared.ask.Ask.{Ask}
use Rattle.wq_ask.specs.declared.ask.Ask.TheVariants.{Alone, OfRoot, OfShelf, Unwatch, Watch}
use Rattle.wq_ask.specs.declared.ask.RootAsk.{RootAsk}
use Rattle.wq_ask.specs.declared.ask.RootAsk.TheVariants.{AddTrigger, DeleteTrigger, Query as AsksQuery, Reads as ReadsRoot, Subscribe, Unsubscribe}
use Rattle.wq_ask.specs.declared.ask.ShelfAsk.{ShelfAsk}
use Rattle.wq_ask.specs.declared.ask.ShelfAsk.TheVariants.{AddProgram, DeleteProgram, Reads as ReadsShelf}
use Rattle.wq_session.specs.declared.cursor.Cursor.{Cursor}
use Rattle.wq_ask.specs.declared.refusal.Refusal.{Refusal}
use Rattle.wq_clock.specs.Instance.{InstanceData}
use Rattle.wq_clock.specs.Run.{RunData, instance_of}
use Rattle.wq_code.specs.declared.raw.Raw.{Raw}
use Rattle.wq_crawl.specs.declared.fault.CrawlFault.{CrawlFault}
use Rattle.wq_follow.specs.Definition.{DefinitionData, ShapeData, defines, has_bad_length, known_part, shape_of}
use Rattle.wq_follow.specs.Interval.{IntervalsAdjoin}
use Rattle.wq_follow.specs.Missing.{NothingIsMissed, ViewsAreReached}
use Rattle.wq_follow.specs.Round.{TriggerData}
use Rattle.wq_follow.specs.Subscription.{SubscriptionData}
use Rattle.wq_follow.specs.declared.fault.TriggerFault.TheVariants.{BadName, Query}
use Rattle.wq_live.specs.Table.{IsTableOf, RootView, TableData, has_text, root_by_text}
use Rattle.wq_live.specs.declared.event.RootEvent.{RootEvent}
use Rattle.wq_query.specs.Query.{QueryData, SinceData, at_bound, at_cursor}
use Rattle.wq_query.specs.Reading.{asks as query_of}
use Rattle.wq_query.specs.Subscribed.{SubscriptionsArePlain}
use Rattle.wq_query.specs.declared.fault.QueryFault.{QueryFault}
use Rattle.wq_registry.specs.ByName.{ByName, put, without}
use Rattle.wq_registry.specs.History.{adds_program, adds_root, adds_trigger, after, after_all, removes_program, removes_root, removes_trigger, unsets_cursor, uses_cursor}
use Rattle.wq_registry.specs.Root.{RootData, changed, is_newer, new_root, numbered, triggers_in, with_cursor, with_trigger, without_cursor, without_text, without_trigger}
use Rattle.wq_registry.specs.Shelf.{triggers_of}
use Rattle.wq_crawl.specs.Meets.{Meets, MeetsAt, MeetsFor, at_end, at_root, ending, fault_for, looked}
use Rattle.wq_replay.specs.Playing.{Happens, Runs}
use Rattle.wq_replay.specs.Rounds.{HasRound, RoundsFound}
use Rattle.wq_replay.specs.Runs.{launcher_at}
use Rattle.wq_crawl.specs.Meets.{RefusedData}
use Rattle.wq_replay.specs.World.{HappeningData, SentData, WorldData, asked, crawl, ended, idle, new_world, round, watching}
use Rattle.wq_session.specs.Accepted.{Accepts, AnswersAreCalls, CallNow, calls_of, cursor_calls, definition_calls, made_calls, query_calls, shelf_calls, shown_calls, there_calls, unset_calls}
use Rattle.wq_crawl.specs.At.{AtData}
use Rattle.wq_session.specs.At.{ShelfNow}
use Rattle.wq_session.specs.Desk.{StandData, stand}
use Rattle.wq_session.specs.Query.{program_for}
use Rattle.wq_session.specs.Round.{after_turns}
use Rattle.wq_session.specs.Trigger.{defined_by, trigger_in, trigger_refusal}
use Rattle.wq_crawl.specs.Views.{ReadyData}
use Rattle.wq_session.specs.Desk.{Replies}
use Rattle.wq_view.specs.View.{ViewData}
use Rattle.wq_headline.specs.Triggers.{IsTriggered, TriggersAreExact}
use Rattle.wq_headline.proofs.Followed.{crawl_leaves, watch_leaves}
use Rattle.wq_headline.proofs.Growth.{begins_itself, happens, meets}
use Rattle.wq_headline.proofs.Lists.{found_view}
use Rattle.wq_headline.proofs.Moments.{same_number}
use Rattle.wq_headline.proofs.Sent.{Sent}
use Rattle.wq_headline.proofs.Starting.{Tallies, Tally, all_triggered, kept_tally, known_plain, note_of, round_tried, tried_of, turns_tally}

filtered : {X : Type 0} (P : X → Type 0) (p : X → Bool) (xs : List X) → AllByRecursion P xs → AllByRecursion P (filter p xs)
filtered P p [] all = tt
filtered P p (x ∷ xs) all = by (p x) (filtered P p xs all.1)
  where
    by : (b : Bool) → AllByRecursion P (filter p xs) → AllByRecursion P (cond b (x ∷ filter p xs) (filter p xs))
    by true rest = (all.0, rest)
    by false rest = rest

-- a change of the root of a number
changed_all : (P Q : RootData TriggerData → Type 0) (number : ℕ) (change : RootData TriggerData → RootData TriggerData)
    → ((r : RootData TriggerData) → P r → Q r) → ((r : RootData TriggerData) → r.number ≡ number → P r → Q (change r))
    → (rs : List (RootData TriggerData)) → AllByRecursion P rs → AllByRecursion Q (changed number change rs)
changed_all P Q number change weaker to [] all = tt
changed_all P Q number change weaker to (r ∷ rs) all = by (nat_eq number r.number) refl (changed_all P Q number change weaker to rs all.1)
  where
    by : (b : Bool) → nat_eq number r.number ≡ b → AllByRecursion Q (changed number change rs) → AllByRecursion Q (cond b (change r ∷ rs) (r ∷ changed number change rs))
    by true same rest = (to r (same_number number r.number same) all.0, all_so P Q weaker rs all.1)
    by false other rest = (weaker r all.0, rest)

-- things under names
put_all : (P : TriggerData → Type 0) (name : List ℕ) (t : TriggerData) (ts : ByName TriggerData) → P t → AllByRecursion (λ x. P x.1) ts → AllByRecursion (λ x. P x.1) (put name t ts)
put_all P name t [] one all = (one, tt)
put_all P name t (x ∷ ts) one all = by (bytes_eq name x.0) (put_all P name t ts one all.1)
  where
    by : (b : Bool) → AllByRecursion (λ x. P x.1) (put name t ts) → AllByRecursion (λ x. P x.1) (cond b ((x.0, t) ∷ ts) (x ∷ put name t ts))
    by true rest = (one, all.1)
    by false rest = (all.0, rest)

without_all : (P : TriggerData → Type 0) (name : List ℕ) (ts : ByName TriggerData) → AllByRecursion (λ x. P x.1) ts → AllByRecursion (λ x. P x.1) (without name ts)
without_all P name [] all = tt
without_all P name (x ∷ ts) all = by (bytes_eq name x.0) (without_all P name ts all.1)
  where
    by : (b : Bool) → AllByRecursion (λ x. P x.1) (without name ts) → AllByRecursion (λ x. P x.1) (cond b ts (x ∷ without name ts))
    by true rest = all.1
    by false rest = (all.0, rest)

-- a definition, of its parts
abbrev defined_with : ShapeData → QueryData → Data → DefinitionData
defined_with shape query d = record { shape = shape; query = query; object = known_part d }

module _ (run : RunData) where
  -- the accounts of all triggers of a root, and of roots
  abbrev OfRootNow : List RootEvent → List SentData → RootData TriggerData → Type 0
  OfRootNow events sent r = Tallies run r.number events sent r.triggers

  abbrev OnRoots : List RootEvent → List SentData → List (RootData TriggerData) → Type 0
  OnRoots events sent rs = AllByRecursion (OfRootNow events sent) rs

  tallies_kept : (number : ℕ) (events later : List RootEvent) (said sent : List SentData) → IsPrefix events later → (ts : ByName TriggerData) → Tallies run number events said ts
      → Tallies run number later (said ++ sent) ts
  tallies_kept number events later said sent goes [] all = tt
  tallies_kept number events later said sent goes (x ∷ ts) all =
      (kept_tally run number events later said sent x.1 x.1 goes refl refl refl all.0, tallies_kept number events later said sent goes ts all.1)

  roots_kept : (events later : List RootEvent) (said sent : List SentData) → IsPrefix events later → (rs : List (RootData TriggerData)) → OnRoots events said rs
      → OnRoots later (said ++ sent) rs
  roots_kept events later said sent goes rs all =
      all_so (OfRootNow events said) (OfRootNow later (said ++ sent)) (λ r tallies. tallies_kept r.number events later said sent goes r.triggers tallies) rs all

  -- the triggers of the root of a number
  of_number : (events : List RootEvent) (sent : List SentData) (number : ℕ) (rs : List (RootData TriggerData)) → OnRoots events sent rs
      → (found : Option (RootData TriggerData)) → numbered number rs ≡ found → (r : RootData TriggerData) → found ≡ Some r → Tallies run number events sent r.triggers
  of_number events sent number [] all found is r there = absurd cc
  of_number events sent number (x ∷ rs) all found is r there = by (nat_eq number x.number) refl is (λ later. of_number events sent number rs all.1 found later r there)
    where
      by : (b : Bool) → nat_eq number x.number ≡ b → cond b (Some x) (numbered number rs) ≡ found → (numbered number rs ≡ found → Tallies run number events sent r.triggers)
          → Tallies run number events sent r.triggers
      by true same is later =
          let here : x ≡ r = same_Some _ _ (is ∙ there) in
          subst (λ (y : RootData TriggerData). Tallies run number events sent y.triggers) here
          (subst (λ n. Tallies run n events sent x.triggers) (same_number number x.number same) all.0)
      by false other is later = later is

  pub of_shelf : (events : List RootEvent) (sent : List SentData) (number : ℕ) (shelf : ShelfNow) → OnRoots events sent shelf.roots → Tallies run number events sent (triggers_of number shelf)
  of_shelf events sent number shelf all = by (numbered number shelf.roots) refl
    where
      by : (found : Option (RootData TriggerData)) → numbered number shelf.roots ≡ found → Tallies run number events sent (triggers_in found)
      by None is = tt
      by (Some r) is = of_number events sent number shelf.roots all (Some r) is r refl

  module _ (events : List RootEvent) (sent : List SentData) where
    -- a call puts a trigger that has an account
    abbrev Fits : CallNow → Type 0
    Fits (adds_trigger root name t) = Tally run root events sent t
    Fits (adds_program name program) = Unit {0}
    Fits (removes_program name) = Unit {0}
    Fits (adds_root text number) = Unit {0}
    Fits (removes_root number) = Unit {0}
    Fits (uses_cursor root name tick) = Unit {0}
    Fits (unsets_cursor root name) = Unit {0}
    Fits (removes_trigger root name) = Unit {0}

    abbrev Now : List (RootData TriggerData) → Type 0
    Now rs = OnRoots events sent rs

    abbrev changes : (number : ℕ) (change : RootData TriggerData → RootData TriggerData)
        → ((r : RootData TriggerData) → r.number ≡ number → OfRootNow events sent r → OfRootNow events sent (change r))
        → (rs : List (RootData TriggerData)) → Now rs → Now (changed number change rs)
    changes number change to rs all = changed_all (OfRootNow events sent) (OfRootNow events sent) number change (λ r here. here) to rs all

    added_root : (text : List ℕ) (number : ℕ) (rs : List (RootData TriggerData)) → Now rs → (b : Bool) → Now (cond b rs (without_text text rs ++ new_root text number ∷ []))
    added_root text number rs all true = all
    added_root text number rs all false =
        all_both (OfRootNow events sent) (without_text text rs) (new_root text number ∷ []) (filtered (OfRootNow events sent) (λ r. not (bytes_eq text r.text)) rs all) (tt, tt)

    one_call : (c : CallNow) (shelf : ShelfNow) → Fits c → Now shelf.roots → Now (after c shelf).roots
    one_call (adds_program name program) shelf fits all = all
    one_call (removes_program name) shelf fits all = all
    one_call (adds_root text number) shelf fits all = added_root text number shelf.roots all (list_any (is_newer text number) shelf.roots)
    one_call (removes_root number) shelf fits all = filtered (OfRootNow events sent) (λ r. not (nat_eq number r.number)) shelf.roots all
    one_call (uses_cursor root name tick) shelf fits all = changes root (with_cursor name tick) (λ r same here. here) shelf.roots all
    one_call (unsets_cursor root name) shelf fits all = changes root (without_cursor name) (λ r same here. here) shelf.roots all
    one_call (adds_trigger root name t) shelf fits all =
        changes root (with_trigger name t)
        (λ r same here. put_all (Tally run r.number events sent) name t r.triggers (subst (λ n. Tally run n events sent t) (sym same) fits) here) shelf.roots all
    one_call (removes_trigger root name) shelf fits all =
        changes root (without_trigger name) (λ r same here. without_all (Tally run r.number events sent) name r.triggers here) shelf.roots all

    all_calls : (cs : List CallNow) (shelf : ShelfNow) → AllByRecursion Fits cs → Now shelf.roots → Now (after_all cs shelf).roots
    all_calls [] shelf fit all = all
    all_calls (c ∷ cs) shelf fit all = all_calls cs (after c shelf) fit.1 (one_call c shelf fit.0 all)

    -- the root that an ask is answered at
    abbrev IsPlaced : Option AtData → Type 0
    IsPlaced None = Unit {0}
    IsPlaced (Some at) = at.instance ≡ instance_of run (at.instance).root

    module _ (plain : SubscriptionsArePlain) where
      -- a new trigger has told nothing
      new_tally : (instance : InstanceData) (d : Data) (definition : DefinitionData) (root : List ℕ) (program : Option Raw) (shelf : ShelfNow)
          → instance ≡ instance_of run instance.root → defined_by instance d ≡ Ok definition
          → Tally run instance.root events sent (trigger_in root instance.root definition program shelf)
      new_tally instance d definition root program shelf placed is =
          or_its_fault-ok trigger_refusal (defines instance d) Ok definition is (λ made defined same.
          unless_fault-ok BadName (not (has_bad_length (get (codes "name") d))) _ made defined (λ test shaped.
          or_own_fault-ok (shape_of d) _ made shaped (λ shape of_shape asked.
          or_its_fault-ok Query (query_of instance (known_part d)) _ made asked (λ query asks built.
          let is_made : defined_with shape query d ≡ definition = cc (built, same) in
          subst (λ (x : DefinitionData). Tally run instance.root events sent (trigger_in root instance.root x program shelf)) is_made
          (record {
            query = query;
            program = program;
            asks = subst (λ i. query_of i (known_part d) ≡ Ok query) placed asks;
            plain = known_plain plain instance d query program asks;
            views = [];
            are = tt;
            sends = tt;
            next = refl;
          })))))

      query_fit : (root tick : ℕ) (q : Result QueryData QueryFault) → AllByRecursion Fits (query_calls root tick q)
      query_fit root tick (Err fault) = tt
      query_fit root tick (Ok q) = by q.since
        where
          by : (since : SinceData) → AllByRecursion Fits (cursor_calls root since tick)
          by (at_bound bound) = tt
          by (at_cursor name) = (tt, tt)

      shown_fit : (instance : InstanceData) (view : Option ViewData) (d : Data) → AllByRecursion Fits (shown_calls instance view d)
      shown_fit instance None d = tt
      shown_fit instance (Some view) d = query_fit instance.root view.tick (query_of instance d)

      defined_fit : (root : List ℕ) (instance : InstanceData) (d : Data) (shelf : ShelfNow) → instance ≡ instance_of run instance.root
          → AllByRecursion Fits (definition_calls root instance.root (defined_by instance d) shelf)
      defined_fit root instance d shelf placed = by (defined_by instance d) refl
        where
          made : (definition : DefinitionData) → defined_by instance d ≡ Ok definition → (program : Result (Option Raw) Refusal)
              → AllByRecursion Fits (made_calls root instance.root definition program shelf)
          made definition is (Err refusal) = tt
          made definition is (Ok program) = (new_tally instance d definition root program shelf placed is, tt)

          by : (defined : Result DefinitionData Refusal) → defined_by instance d ≡ defined → AllByRecursion Fits (definition_calls root instance.root defined shelf)
          by (Err refusal) is = tt
          by (Ok definition) is = made definition is (program_for definition.query shelf)

      there_fit : (what : RootAsk) (root : List ℕ) (at : AtData) (shelf : ShelfNow) → IsPlaced (Some at) → AllByRecursion Fits (there_calls what root at shelf)
      there_fit (ReadsRoot what) root at shelf placed = tt
      there_fit (AsksQuery q) root at shelf placed = shown_fit at.instance at.view (data_of q)
      there_fit (Subscribe name q) root at shelf placed = tt
      there_fit (Unsubscribe name) root at shelf placed = tt
      there_fit (AddTrigger t) root at shelf placed = defined_fit root at.instance (data_of t) shelf placed
      there_fit (DeleteTrigger name) root at shelf placed = (tt, tt)

      shelf_fit : (what : ShelfAsk) → AllByRecursion Fits (shelf_calls what)
      shelf_fit (AddProgram name program) = (tt, tt)
      shelf_fit (DeleteProgram name) = (tt, tt)
      shelf_fit (ReadsShelf what) = tt

      calls_fit : (ask : Ask) (at : Option AtData) (shelf : ShelfNow) → IsPlaced at → AllByRecursion Fits (calls_of ask at shelf)
      calls_fit (OfShelf what) at shelf placed = shelf_fit what
      calls_fit (Watch root) None shelf placed = tt
      calls_fit (Watch root) (Some at) shelf placed = (tt, tt)
      calls_fit (Unwatch root) None shelf placed = tt
      calls_fit (Unwatch root) (Some at) shelf placed = (tt, tt)
      calls_fit (OfRoot root first what) None shelf placed = tt
      calls_fit (OfRoot root first what) (Some at) shelf placed = there_fit what root at shelf placed
      calls_fit (Alone what) None shelf placed = tt
      calls_fit (Alone what) (Some at) shelf placed = tt

      unset_fit : (cursor : Option Cursor) → AllByRecursion Fits (unset_calls cursor)
      unset_fit None = tt
      unset_fit (Some cursor) = (tt, tt)

      accepts_fit : (ask : Ask) (at : Option AtData) (shelf : ShelfNow) (follows : List SubscriptionData) (out : OutData) (calls : List CallNow) → IsPlaced at
          → Accepts false ask at shelf follows out calls → AllByRecursion Fits calls
      accepts_fit ask at shelf follows out calls placed (inl (begun, tries, gives, is)) = subst (AllByRecursion Fits) (sym is) (calls_fit ask at shelf placed)
      accepts_fit ask at shelf follows out calls placed (inr (inl (refusal, tries, gives, is))) = subst (AllByRecursion Fits) (sym is) tt
      accepts_fit ask at shelf follows out calls placed (inr (inr (inl (takes, gives, is)))) = subst (AllByRecursion Fits) (sym is) tt
      accepts_fit ask at shelf follows out calls placed (inr (inr (inr (begun, plan, cursor, tries, works, gives, is)))) =
          subst (AllByRecursion Fits) (sym is) (all_both Fits (calls_of ask at shelf) (unset_calls cursor) (calls_fit ask at shelf placed) (unset_fit cursor))

      -- the shelf that an ask leaves
      replies_keep : AnswersAreCalls → (ask : Ask) (ready : ReadyData) (shelf left : ShelfNow) (follows kept : List SubscriptionData) (out : OutData)
          → ((at : Option AtData) → ready ≡ Ok at → IsPlaced at) → Replies false ready ask (stand (Some shelf) follows) out (stand (Some left) kept) → Now shelf.roots → Now left.roots
      replies_keep answers ask (Err fault) shelf left follows kept out placed (may, same) all =
          subst (λ (s : ShelfNow). Now s.roots) (sym (same_Some _ _ (ap (λ (s : StandData). s.shelf) same))) all
      replies_keep answers ask (Ok at) shelf left follows kept out placed (next, is, same) all =
          let made = answers false ask at shelf follows out next kept is in
          subst (λ (s : ShelfNow). Now s.roots) (sym (same_Some _ _ same ∙ made.2))
          (all_calls made.0 shelf (accepts_fit ask at shelf follows out made.0 (placed at refl) made.1) all)

  -- where an ask is ready
  found_placed : (events : List RootEvent) (sent : List SentData) (found : Option RootView) → IsPlaced events sent (option_map (at_root run) found)
  found_placed events sent None = tt
  found_placed events sent (Some r) = refl

  looked_placed : (events : List RootEvent) (sent : List SentData) (need : NeedData) (table : TableData) → IsPlaced events sent (looked need run table)
  looked_placed events sent (look root) table = found_placed events sent (root_by_text root table)
  looked_placed events sent (crawl_of root) table = found_placed events sent (root_by_text root table)
  looked_placed events sent (watch root) table = found_placed events sent (root_by_text root table)
  looked_placed events sent (unwatch root) table = tt
  looked_placed events sent none table = tt

  ready_placed : (before : List RootEvent) (sent : List SentData) (need : NeedData) (refused : Option RefusedData) (ready : ReadyData) (later : List RootEvent)
      → Meets need run refused before ready later → (at : Option AtData) → ready ≡ Ok at → IsPlaced later sent at
  ready_placed before sent need refused ready later (table, is, met) at so = unless (fault_for need table refused) met
    where
      ok_same : (x y : Option AtData) → ready ≡ Ok x → ready ≡ Ok y → x ≡ y
      ok_same x y one other = cc (sym one ∙ other)

      at_number : (number : Option ℕ) → MeetsAt number need run table before ready later → IsPlaced later sent at
      at_number None (is, same) = subst (IsPlaced later sent) (ok_same (looked need run table) at is so) (looked_placed later sent need table)
      at_number (Some number) (inl (is, ends)) = subst (IsPlaced later sent) (ok_same (Some (at_end run number)) at is so) refl
      at_number (Some number) (inr (is, same)) = absurd (cc (sym is ∙ so))

      unless : (fault : Option CrawlFault) → MeetsFor fault need run table before ready later → IsPlaced later sent at
      unless (Some fault) (is, same) = absurd (cc (sym is ∙ so))
      unless None met = at_number (ending need table) met

  -- the accounts of a world
  abbrev Has : WorldData → List SentData → Type 0
  Has world said = (world.run ≡ run) × OnRoots world.events said (world.shelf).roots

  left_alone : (world next : WorldData) (said sent : List SentData) → next.shelf ≡ world.shelf → next.run ≡ world.run → IsPrefix world.events next.events → Has world said
      → Has next (said ++ sent)
  left_alone world next said sent shelf same goes (of_run, all) = (
    same ∙ of_run,
    subst (λ (s : ShelfNow). OnRoots next.events (said ++ sent) s.roots) (sym shelf) (roots_kept world.events next.events said sent goes (world.shelf).roots all),
  )

  -- a round
  round_keeps : (root : RootView) (answers : List (Option ℕ)) (world next : WorldData) (said sent : List SentData) (table : TableData) (text : List ℕ) → IsTableOf world.events table
      → root_by_text text table ≡ Some root → HasRound (instance_of run root.number) root.view answers world sent next → OnRoots world.events said (world.shelf).roots
      → OnRoots world.events (said ++ sent) (next.shelf).roots
  round_keeps root answers world next said sent table text is found had all =
      subst (λ (s : ShelfNow). OnRoots world.events (said ++ sent) s.roots) (sym (ap (λ w. w.shelf) had.is ∙ (had.round).is))
      (changed_all (OfRootNow world.events said) (OfRootNow world.events (said ++ sent)) root.number (λ r. record r { triggers = after_turns (had.round).turns })
      (λ r here. tallies_kept r.number world.events world.events said sent (begins_itself world.events world.events refl) r.triggers here)
      (λ r same here. subst (λ n. Tallies run n world.events (said ++ sent) (after_turns (had.round).turns)) (sym same) turned) (world.shelf).roots all)
    where
      tried : (had.left).tried ≡ tried_of (had.round).turns
      tried = round_tried (instance_of run root.number) root.view (triggers_of root.number world.shelf) (had.round).turns (launcher_at answers world.runs)
          had.left refl (had.round).had

      turned : Tallies run root.number world.events (said ++ sent) (after_turns (had.round).turns)
      turned =
          turns_tally run root.number world.events said sent root.view (found_view world.events table is (has_text text) root found)
          (triggers_of root.number world.shelf) (had.round).turns (Some (launcher_at answers world.runs)) (Some had.left) (had.round).had
          (of_shelf world.events said root.number world.shelf all)
          (λ xs were. subst (Sent note_of xs) (sym (had.tells ∙ ap (map note_of) tried)) were)

  module _ (plain : SubscriptionsArePlain) (answers : AnswersAreCalls) where
    step : (world : WorldData) (happening : HappeningData) (sent : List SentData) (next : WorldData) (said : List SentData) → Happens world happening sent next → Has world said
        → Has next (said ++ sent)
    step world (crawl root seen) sent next said is has =
        let stays = crawl_leaves world root seen next is.1 in
        left_alone world next said sent stays.1 stays.2 (happens world (crawl root seen) sent next is) has
    step world (watching root seen) sent next said (empty, (place, found, goes)) has =
        let stays = watch_leaves place world root seen next goes in
        left_alone world next said sent stays.1 stays.2 (happens world (watching root seen) sent next (empty, (place, found, goes))) has
    step world (asked of ask) sent next said (out, (ready, later, met, (shelf, left, replies, is)), sends) has = (
      ap (λ w. w.run) is ∙ has.0,
      subst (λ (w : WorldData). OnRoots w.events (said ++ sent) (w.shelf).roots) (sym is)
          (replies_keep later (said ++ sent) plain answers ask ready world.shelf shelf (world.follows of) left out
          (ready_placed world.events (said ++ sent) (need_of ask) world.refused ready later
          (subst (λ r. Meets (need_of ask) r world.refused world.events ready later) has.0 met)) replies
          (roots_kept world.events later said sent (meets (need_of ask) world.run world.refused world.events ready later met) (world.shelf).roots has.1)),
    )
    step world (idle of number) sent next said (out, (table, left, found, idles, is), sends) has =
        left_alone world next said sent (ap (λ w. w.shelf) is) (ap (λ w. w.run) is) (begins_itself world.events next.events (ap (λ w. w.events) is)) has
    step world (round text answers) sent next said (table, found, goes) has = at (root_by_text text table) refl goes
      where
        at : (shown : Option RootView) → root_by_text text table ≡ shown → RoundsFound shown answers world sent next → Has next (said ++ sent)
        at None absent (empty, is) =
            left_alone world next said sent (ap (λ w. w.shelf) is) (ap (λ w. w.run) is) (begins_itself world.events next.events (ap (λ w. w.events) is)) has
        at (Some root) there had = (
          ap (λ w. w.run) had.is ∙ has.0,
          subst (λ e. OnRoots e (said ++ sent) (next.shelf).roots) (sym (ap (λ w. w.events) had.is))
              (round_keeps root answers world next said sent table text found there
              (subst (λ r. HasRound (instance_of r root.number) root.view answers world sent next) has.0 had) has.1),
        )
    step world (ended number) sent next said (empty, is) has =
        left_alone world next said sent (ap (λ w. w.shelf) is) (ap (λ w. w.run) is) (begins_itself world.events next.events (ap (λ w. w.events) is)) has

    -- happenings in turn
    through : (world : WorldData) (happenings : List HappeningData) (sent : List SentData) (after : WorldData) (said : List SentData) → Runs world happenings sent after → Has world said
        → Has after (said ++ sent)
    through world [] sent after said (empty, same) has =
        subst (λ l. Has after l) (sym (ap (λ l. said ++ l) empty ∙ append-nil said)) (subst (λ w. Has w said) (sym same) has)
    through world (happening ∷ later) sent after said (next, first, rest, now, parts, behind) has =
        subst (λ l. Has after l) (append_assoc said first rest ∙ ap (λ l. said ++ l) (sym parts))
        (through next later rest after (said ++ first) behind (step world happening first next said now has))

-- the law
pub triggers_are_exact : SubscriptionsArePlain → AnswersAreCalls → IntervalsAdjoin → NothingIsMissed → ViewsAreReached → TriggersAreExact
triggers_are_exact plain answers intervals missed views_are_reached run sockname happenings sent world number runs =
    All-from_recursion (λ x. IsTriggered run number world.events sent x.1) (triggers_of number world.shelf)
    (all_triggered intervals missed views_are_reached run number world.events sent (triggers_of number world.shelf)
    (of_shelf run world.events sent number world.shelf
    (through run plain answers (new_world run sockname) happenings sent world [] runs (refl, (tt, tt))).1))
