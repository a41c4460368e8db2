-- An accepted call keeps the run of a trigger that stays on the shelf.
use Rattle.std.proofs.Common.{◌≡◌, ℕ, Bool, true, false, not, ◌||◌, nat_eq, if◌then◌else◌, List, [], ◌∷◌, ◌++◌, flat_map, Option, Some, None, is_some, Result, Ok, Err, inl, inr, refl, sym, ap, subst, ◌∙◌}
use mathlib.Core.Bool.{false≢true}
use Rattle.std.specs.Str.{bytes_eq}
use Rattle.std.proofs.lemmas.Bool.{eqb-true}
use Rattle.std.proofs.lemmas.List.{append_assoc}
use Rattle.serde_json.specs.View.{view as data_of}
use Rattle.wq_follow.specs.Definition.{DefinitionData}
use Rattle.wq_follow.specs.Round.{TriggerData}
use Rattle.wq_follow.specs.Subscription.{SubscriptionData}
use Rattle.wq_query.specs.Query.{QueryData, SinceData, at_bound, at_cursor}
use Rattle.wq_query.specs.Reading.{asks as queries}
use Rattle.wq_query.specs.declared.fault.QueryFault.{QueryFault}
use Rattle.wq_registry.proofs.Changes.{last_change_counts, same_text}
use Rattle.wq_registry.proofs.Watches.{triggers_are_made}
use Rattle.wq_registry.specs.ByName.{under}
use Rattle.wq_registry.specs.Change.{Change, last_said, later, putting, removing, says_of}
use Rattle.wq_registry.specs.History.{adds_program, removes_program, adds_root, removes_root, uses_cursor, unsets_cursor, adds_trigger, removes_trigger, after as after_call, after_all, is_interrupted, since_added, stays_on, trigger_change}
use Rattle.wq_registry.specs.Shelf.{blank}
use Rattle.wq_session.specs.Out.{OutData}
use Rattle.wq_ask.specs.declared.ask.Ask.{Ask}
use Rattle.wq_ask.specs.declared.ask.Ask.TheVariants.{Alone, OfRoot, OfShelf, Unwatch, Watch}
use Rattle.wq_ask.specs.declared.ask.RootAsk.{RootAsk}
use Rattle.wq_ask.specs.declared.ask.RootAsk.TheVariants.{AddTrigger, DeleteTrigger, Query, Reads as ReadsRoot, Subscribe, Unsubscribe}
use Rattle.wq_ask.specs.declared.ask.ShelfAsk.TheVariants.{AddProgram, DeleteProgram, Reads as ReadsShelf}
use Rattle.wq_session.specs.declared.cursor.Cursor.{Cursor}
use Rattle.wq_ask.specs.declared.refusal.Refusal.{Refusal}
use Rattle.wq_session.specs.Accepted.{Accepts, CallNow, calls_of, cursor_calls, definition_calls, made_calls, query_calls, shown_calls, there_calls, unset_calls}
use Rattle.wq_crawl.specs.At.{AtData}
use Rattle.wq_session.specs.At.{ShelfNow}
use Rattle.wq_session.specs.Query.{program_for}
use Rattle.wq_session.specs.Trigger.{defined_by, run_in, trigger_called}
use Rattle.wq_session.proofs.Reaching.{after_both}
use Rattle.wq_view.specs.View.{ViewData}

-- the run of the command of a trigger on a shelf
abbrev pub run_at : ℕ → List ℕ → ShelfNow → Option ℕ
run_at root name shelf = run_in (trigger_called root name shelf)

-- the changes of two lists of calls
changes_then : (root : ℕ) (calls more : List CallNow)
    → flat_map (trigger_change root) (calls ++ more) ≡ flat_map (trigger_change root) calls ++ flat_map (trigger_change root) more
changes_then root [] more = refl
changes_then root (c ∷ calls) more =
    ap (λ cs. trigger_change root c ++ cs) (changes_then root calls more)
    ∙ sym (append_assoc (trigger_change root c) (flat_map (trigger_change root) calls) (flat_map (trigger_change root) more))

-- the thing that changes leave under a name, if other changes follow
said_then : (name : List ℕ) (first more : List (Change TriggerData)) (before : Option TriggerData)
    → last_said name (first ++ more) before ≡ last_said name more (last_said name first before)
said_then name [] more before = refl
said_then name (c ∷ first) more before = said_then name first more (later (says_of name c) before)

module _ (root : ℕ) (c : CallNow) where
  -- whether the root is absent at some time, with one more call
  interrupted_then : (calls : List CallNow) (s : ShelfNow)
      → is_interrupted root s (calls ++ c ∷ []) ≡ (is_interrupted root s calls || not (stays_on root (after_all calls s) c))
  interrupted_then [] s = by (not (stays_on root s c))
    where
      by : (b : Bool) → (b || false) ≡ b
      by true = refl
      by false = refl
  interrupted_then (d ∷ calls) s =
      ap (λ b. not (stays_on root s d) || b) (interrupted_then calls (after_call d s))
      ∙ by (not (stays_on root s d)) (is_interrupted root (after_call d s) calls) (not (stays_on root (after_all calls (after_call d s)) c))
    where
      by : (x y z : Bool) → (x || (y || z)) ≡ ((x || y) || z)
      by true y z = refl
      by false y z = refl

  -- the calls since it was added, with one more call
  since_then : (calls : List CallNow) (s : ShelfNow)
      → since_added root s (calls ++ c ∷ []) ≡ (if stays_on root (after_all calls s) c then since_added root s calls ++ c ∷ [] else [])
  since_then [] s = by (stays_on root s c)
    where
      by : (b : Bool) → (if not b || false then [] else c ∷ []) ≡ (if b then c ∷ [] else [])
      by true = refl
      by false = refl
  since_then (d ∷ calls) s =
      let rest = since_added root (after_call d s) calls in
      let stays = stays_on root (after_all calls (after_call d s)) c in
      ap (λ b. if b then since_added root (after_call d s) (calls ++ c ∷ []) else d ∷ since_added root (after_call d s) (calls ++ c ∷ [])) (interrupted_then (d ∷ calls) s)
      ∙ ap (λ cs. if is_interrupted root s (d ∷ calls) || not stays then cs else d ∷ cs) (since_then calls (after_call d s))
      ∙ by rest (is_interrupted root s (d ∷ calls)) stays
    where
      by : (rest : List CallNow) (i b : Bool) → (if i || not b then (if b then rest ++ c ∷ [] else []) else d ∷ (if b then rest ++ c ∷ [] else []))
          ≡ (if b then (if i then rest else d ∷ rest) ++ c ∷ [] else [])
      by rest true true = refl
      by rest true false = refl
      by rest false true = refl
      by rest false false = refl

after_then : (calls : List CallNow) (c : CallNow) (s : ShelfNow) → after_all (calls ++ c ∷ []) s ≡ after_call c (after_all calls s)
after_then [] c s = refl
after_then (d ∷ calls) c s = after_then calls c (after_call d s)

-- a call that puts a trigger gives it the run of the trigger that it replaces
abbrev Keeps : CallNow → ShelfNow → Type 0
Keeps (adds_trigger r n t) shelf = t.running ≡ run_at r n shelf
Keeps (adds_program n program) shelf = Unit {0}
Keeps (removes_program n) shelf = Unit {0}
Keeps (adds_root text number) shelf = Unit {0}
Keeps (removes_root number) shelf = Unit {0}
Keeps (uses_cursor r n tick) shelf = Unit {0}
Keeps (unsets_cursor r n) shelf = Unit {0}
Keeps (removes_trigger r n) shelf = Unit {0}

-- some calls, if the root stays
abbrev if_stays : List CallNow → Bool → List CallNow
if_stays cs b = if b then cs else []

module _ (root : ℕ) (name : List ℕ) (sockname : List ℕ) (calls : List CallNow) where
  -- the shelf that calls lead to
  abbrev led : ShelfNow
  led = after_all calls (blank sockname)

  abbrev changes : List (Change TriggerData)
  changes = flat_map (trigger_change root) (since_added root (blank sockname) calls)

  -- the changes determine the trigger
  said_there : trigger_called root name led ≡ last_said name changes None
  said_there = ap (under name) (triggers_are_made calls sockname root) ∙ last_change_counts changes name

  -- if a trigger is there after one more call, the change of that call determines it
  called_after : (c : CallNow) → is_some (trigger_called root name (after_call c led)) ≡ true
      → trigger_called root name (after_call c led) ≡ last_said name (trigger_change root c ++ []) (trigger_called root name led)
  called_after c there =
      all ∙ by (stays_on root led c) (ap is_some (sym all) ∙ there)
    where
      all : trigger_called root name (after_call c led) ≡ last_said name (flat_map (trigger_change root) (if_stays (since_added root (blank sockname) calls ++ c ∷ []) (stays_on root led c))) None
      all =
          ap (trigger_called root name) (sym (after_then calls c (blank sockname)))
          ∙ ap (under name) (triggers_are_made (calls ++ c ∷ []) sockname root)
          ∙ last_change_counts (flat_map (trigger_change root) (since_added root (blank sockname) (calls ++ c ∷ []))) name
          ∙ ap (λ cs. last_said name (flat_map (trigger_change root) cs) None) (since_then root c calls (blank sockname))

      by : (b : Bool) → is_some (last_said name (flat_map (trigger_change root) (if_stays (since_added root (blank sockname) calls ++ c ∷ []) b)) None) ≡ true
          → last_said name (flat_map (trigger_change root) (if_stays (since_added root (blank sockname) calls ++ c ∷ []) b)) None ≡ last_said name (trigger_change root c ++ []) (trigger_called root name led)
      by true some =
          ap (λ cs. last_said name cs None) (changes_then root (since_added root (blank sockname) calls) (c ∷ []))
          ∙ said_then name changes (trigger_change root c ++ []) None
          ∙ ap (last_said name (trigger_change root c ++ [])) (sym said_there)
      by false some = absurd (false≢true some)

  -- after such a call a trigger that is there has the run that it had
  call_keeps : (c : CallNow) → Keeps c led → is_some (trigger_called root name (after_call c led)) ≡ true
      → run_at root name (after_call c led) ≡ run_at root name led
  call_keeps (adds_program n program) keeps there = ap run_in (called_after (adds_program n program) there)
  call_keeps (removes_program n) keeps there = ap run_in (called_after (removes_program n) there)
  call_keeps (adds_root text number) keeps there = ap run_in (called_after (adds_root text number) there)
  call_keeps (removes_root number) keeps there = ap run_in (called_after (removes_root number) there)
  call_keeps (uses_cursor r n tick) keeps there = ap run_in (called_after (uses_cursor r n tick) there)
  call_keeps (unsets_cursor r n) keeps there = ap run_in (called_after (unsets_cursor r n) there)
  call_keeps (adds_trigger r n t) keeps there = ap run_in (called_after (adds_trigger r n t) there) ∙ by (nat_eq root r) refl
    where
      named : (b : Bool) → bytes_eq name n ≡ b → nat_eq root r ≡ true
          → run_in (later (if b then Some (Some t) else None) (trigger_called root name led)) ≡ run_at root name led
      named true same number =
          keeps ∙ ap (λ r. run_at r n led) (sym (eqb-true root r number)) ∙ ap (λ n. run_at root n led) (sym (same_text name n same))
      named false other number = refl

      by : (b : Bool) → nat_eq root r ≡ b
          → run_in (last_said name ((if b then putting n t ∷ [] else []) ++ []) (trigger_called root name led)) ≡ run_at root name led
      by true number = named (bytes_eq name n) refl number
      by false number = refl
  call_keeps (removes_trigger r n) keeps there =
      ap run_in (called_after (removes_trigger r n) there) ∙ by (nat_eq root r) (ap is_some (sym (called_after (removes_trigger r n) there)) ∙ there)
    where
      named : (b : Bool) → is_some (later (if b then Some None else None) (trigger_called root name led)) ≡ true
          → run_in (later (if b then Some None else None) (trigger_called root name led)) ≡ run_at root name led
      named true some = absurd (false≢true some)
      named false some = refl

      by : (b : Bool) → is_some (last_said name ((if b then removing n ∷ [] else []) ++ []) (trigger_called root name led)) ≡ true
          → run_in (last_said name ((if b then removing n ∷ [] else []) ++ []) (trigger_called root name led)) ≡ run_at root name led
      by true some = named (bytes_eq name n) some
      by false some = refl

-- a list of at most one call, which keeps the run of a trigger
abbrev OneKept : List CallNow → ShelfNow → Type 0
OneKept [] shelf = Unit {0}
OneKept (c ∷ []) shelf = Keeps c shelf
OneKept (c ∷ d ∷ cs) shelf = ⊥

-- the calls of a query are such a list
query_kept : (root tick : ℕ) (shelf : ShelfNow) (q : Result QueryData QueryFault) → OneKept (query_calls root tick q) shelf
query_kept root tick shelf (Ok q) = by q.since
  where
    by : (since : SinceData) → OneKept (cursor_calls root since tick) shelf
    by (at_bound bound) = tt
    by (at_cursor name) = tt
query_kept root tick shelf (Err fault) = tt

-- and so are those of a definition of a trigger
definition_kept : (root : List ℕ) (number : ℕ) (shelf : ShelfNow) (d : Result DefinitionData Refusal) → OneKept (definition_calls root number d shelf) shelf
definition_kept root number shelf (Ok d) =
    elim (program_for d.query shelf) as (λ program. OneKept (made_calls root number d program shelf) shelf) [
      | Ok program ↦ refl
      | Err refusal ↦ tt
    ]
definition_kept root number shelf (Err refusal) = tt

-- and those of an ask of a root
there_kept : (what : RootAsk) (root : List ℕ) (at : AtData) (shelf : ShelfNow) → OneKept (there_calls what root at shelf) shelf
there_kept (Query q) root at shelf = by at.view
  where
    by : (view : Option ViewData) → OneKept (shown_calls at.instance view (data_of q)) shelf
    by None = tt
    by (Some view) = query_kept (at.instance).root view.tick shelf (queries at.instance (data_of q))
there_kept (ReadsRoot what) root at shelf = tt
there_kept (Subscribe name q) root at shelf = tt
there_kept (Unsubscribe name) root at shelf = tt
there_kept (AddTrigger t) root at shelf = definition_kept root (at.instance).root shelf (defined_by at.instance (data_of t))
there_kept (DeleteTrigger name) root at shelf = tt

-- and those of any ask
ask_kept : (ask : Ask) (at : Option AtData) (shelf : ShelfNow) → OneKept (calls_of ask at shelf) shelf
ask_kept (Watch root) None shelf = tt
ask_kept (Watch root) (Some at) shelf = tt
ask_kept (Unwatch root) None shelf = tt
ask_kept (Unwatch root) (Some at) shelf = tt
ask_kept (OfRoot root crawl what) None shelf = tt
ask_kept (OfRoot root crawl what) (Some at) shelf = there_kept what root at shelf
ask_kept (OfShelf (AddProgram name program)) at shelf = tt
ask_kept (OfShelf (DeleteProgram name)) at shelf = tt
ask_kept (OfShelf (ReadsShelf what)) at shelf = tt
ask_kept (Alone what) None shelf = tt
ask_kept (Alone what) (Some at) shelf = tt

module _ (root : ℕ) (name : List ℕ) (sockname : List ℕ) (shelf : ShelfNow) (earlier : List CallNow) (leads : shelf ≡ after_all earlier (blank sockname)) where
  -- after such a list of calls a trigger that is there has the run that it had
  list_keeps : (cs : List CallNow) → OneKept cs shelf → is_some (trigger_called root name (after_all cs shelf)) ≡ true
      → run_at root name (after_all cs shelf) ≡ run_at root name shelf
  list_keeps [] kept there = refl
  list_keeps (c ∷ []) kept there =
      subst (λ (s : ShelfNow). Keeps c s → is_some (trigger_called root name (after_call c s)) ≡ true → run_at root name (after_call c s) ≡ run_at root name s)
      (sym leads) (call_keeps root name sockname earlier c) kept there
  list_keeps (c ∷ d ∷ cs) kept there = absurd kept

-- to unset a cursor leaves the triggers
unset_keeps : (root : ℕ) (name : List ℕ) (sockname : List ℕ) (shelf : ShelfNow) (earlier : List CallNow) → shelf ≡ after_all earlier (blank sockname)
    → (cursor : Option Cursor) → is_some (trigger_called root name (after_all (unset_calls cursor) shelf)) ≡ true
    → trigger_called root name (after_all (unset_calls cursor) shelf) ≡ trigger_called root name shelf
unset_keeps root name sockname shelf earlier leads None there = refl
unset_keeps root name sockname shelf earlier leads (Some cursor) there =
    subst (λ (s : ShelfNow). is_some (trigger_called root name (after_call (unsets_cursor cursor.root cursor.name) s)) ≡ true
    → trigger_called root name (after_call (unsets_cursor cursor.root cursor.name) s) ≡ trigger_called root name s)
    (sym leads) (called_after root name sockname earlier (unsets_cursor cursor.root cursor.name)) there

-- after the accepted calls of an ask, a trigger that is there has the run that it had
pub accepted_keep : (root : ℕ) (name : List ℕ) (sockname : List ℕ) (ask : Ask) (at : Option AtData) (shelf : ShelfNow) (earlier : List CallNow)
    (follows : List SubscriptionData) (out : OutData) (calls : List CallNow) → shelf ≡ after_all earlier (blank sockname)
    → Accepts false ask at shelf follows out calls → is_some (trigger_called root name (after_all calls shelf)) ≡ true
    → run_at root name (after_all calls shelf) ≡ run_at root name shelf
accepted_keep root name sockname ask at shelf earlier follows out calls leads (inl (begun, tries, gives, is)) there =
    ap (λ cs. run_at root name (after_all cs shelf)) is
    ∙ list_keeps root name sockname shelf earlier leads (calls_of ask at shelf) (ask_kept ask at shelf)
    (subst (λ cs. is_some (trigger_called root name (after_all cs shelf)) ≡ true) is there)
accepted_keep root name sockname ask at shelf earlier follows out calls leads (inr (inl (refusal, tries, gives, is))) there =
    ap (λ cs. run_at root name (after_all cs shelf)) is
accepted_keep root name sockname ask at shelf earlier follows out calls leads (inr (inr (inl (takes, gives, is)))) there =
    ap (λ cs. run_at root name (after_all cs shelf)) is
accepted_keep root name sockname ask at shelf earlier follows out calls leads (inr (inr (inr (begun, plan, cursor, tries, works, gives, is)))) there =
    let own = calls_of ask at shelf in
    let mid : ShelfNow = after_all own shelf in
    let led : mid ≡ after_all (earlier ++ own) (blank sockname) = ap (after_all own) leads ∙ sym (after_both earlier own (blank sockname)) in
    let both : after_all calls shelf ≡ after_all (unset_calls cursor) mid =
    ap (λ cs. after_all cs shelf) is ∙ after_both own (unset_calls cursor) shelf in
    let same = unset_keeps root name sockname mid (earlier ++ own) led cursor (subst (λ s. is_some (trigger_called root name s) ≡ true) both there) in
    ap (run_at root name) both ∙ ap run_in same
    ∙ list_keeps root name sockname shelf earlier leads own (ask_kept ask at shelf)
    (ap is_some (sym (ap (trigger_called root name) both ∙ same)) ∙ there)
