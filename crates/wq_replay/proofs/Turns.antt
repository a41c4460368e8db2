-- The turns of a round, for a trigger whose command runs, and for one that is started.
use Rattle.std.proofs.Common.{◌≡◌, ◌≢◌, ◌⊎◌, ℕ, Bool, true, false, ◌||◌, nat_eq, if◌then◌else◌, List, [], ◌∷◌, Option, Some, None, inl, inr, refl, sym, ap, subst, ◌∙◌}
use mathlib.Core.Bool.{false≢true}
use Rattle.std.specs.List.{list_any}
use Rattle.std.specs.Str.{bytes_eq}
use Rattle.std.proofs.lemmas.Bool.{eq-eqb, eqb-true}
use Rattle.std.proofs.lemmas.Option.{same_Some}
use Rattle.wq_clock.specs.Instance.{InstanceData}
use Rattle.wq_follow.specs.Launcher.{LauncherData, StartsRun, goes_on, next_answer, with_run}
use Rattle.wq_follow.specs.Round.{AgreesWith, FiredData, Fires, IsFree, TriggerData, runs, quiet, started, failed, short}
use Rattle.wq_follow.specs.Start.{StartData}
use Rattle.wq_registry.specs.ByName.{ByName, under}
use Rattle.wq_registry.specs.Change.{later}
use Rattle.wq_registry.specs.Root.{RootData, changed, numbered, triggers_in}
use Rattle.wq_registry.specs.Shelf.{triggers_of}
use Rattle.wq_session.specs.At.{ShelfNow}
use Rattle.wq_session.specs.Round.{HaveTurns, TriggerTurnData, after_turns, with_triggers}
use Rattle.wq_session.specs.Trigger.{run_in}
use Rattle.wq_view.specs.View.{ViewData}
use Rattle.wq_replay.specs.Overlap.{fired_for}
use Rattle.wq_replay.proofs.KeptRuns.{run_at}

-- the triggers of a root after others were put to it, if the root is there
put_triggers : (root : ℕ) (ts : ByName TriggerData) (rs : List (RootData TriggerData))
    → (numbered root rs ≡ None) ⊎ (triggers_in (numbered root (changed root (λ r. record r { triggers = ts }) rs)) ≡ ts)
put_triggers root ts [] = inl refl
put_triggers root ts (r ∷ rs) = by (nat_eq root r.number) refl (put_triggers root ts rs)
  where
    other : nat_eq root r.number ≡ false → (numbered root rs ≡ None) ⊎ (triggers_in (numbered root (changed root (λ r. record r { triggers = ts }) rs)) ≡ ts)
        → (numbered root rs ≡ None) ⊎ (triggers_in (if nat_eq root r.number then Some r else numbered root (changed root (λ r. record r { triggers = ts }) rs)) ≡ ts)
    other differs (inl none) = inl none
    other differs (inr put) = inr (ap (λ b. triggers_in (if b then Some r else numbered root (changed root (λ r. record r { triggers = ts }) rs))) differs ∙ put)

    by : (b : Bool) → nat_eq root r.number ≡ b
        → (numbered root rs ≡ None) ⊎ (triggers_in (numbered root (changed root (λ r. record r { triggers = ts }) rs)) ≡ ts)
        → ((if b then Some r else numbered root rs) ≡ None)
        ⊎ (triggers_in (numbered root (if b then record r { triggers = ts } ∷ rs else r ∷ changed root (λ r. record r { triggers = ts }) rs)) ≡ ts)
    by true same later = inr (ap (λ b. triggers_in (if b then Some (record r { triggers = ts }) else numbered root rs)) same)
    by false differs later = other differs later

-- the triggers of a root after others were put to another root
pub put_other : (root other : ℕ) (ts : ByName TriggerData) (rs : List (RootData TriggerData)) → nat_eq root other ≡ false
    → triggers_in (numbered root (changed other (λ r. record r { triggers = ts }) rs)) ≡ triggers_in (numbered root rs)
put_other root other ts [] differ = refl
put_other root other ts (r ∷ rs) differ = by (nat_eq other r.number) refl (put_other root other ts rs differ)
  where
    by : (b : Bool) → nat_eq other r.number ≡ b
        → triggers_in (numbered root (changed other (λ r. record r { triggers = ts }) rs)) ≡ triggers_in (numbered root rs)
        → triggers_in (numbered root (if b then record r { triggers = ts } ∷ rs else r ∷ changed other (λ r. record r { triggers = ts }) rs))
        ≡ triggers_in (if nat_eq root r.number then Some r else numbered root rs)
    by true same later =
        let differs : nat_eq root r.number ≡ false = ap (nat_eq root) (sym (eqb-true other r.number same)) ∙ differ in
        ap (λ b. triggers_in (if b then Some (record r { triggers = ts }) else numbered root rs)) differs
        ∙ sym (ap (λ b. triggers_in (if b then Some r else numbered root rs)) differs)
    by false unlike later = here (nat_eq root r.number) later
      where
        here : (b : Bool) → triggers_in (numbered root (changed other (λ r. record r { triggers = ts }) rs)) ≡ triggers_in (numbered root rs)
            → triggers_in (if b then Some r else numbered root (changed other (λ r. record r { triggers = ts }) rs)) ≡ triggers_in (if b then Some r else numbered root rs)
        here true later = refl
        here false later = later

-- a run that goes on, after a start
more_runs : (run : ℕ) (answer : Option ℕ) (running : List ℕ) → list_any (λ r. nat_eq run r) running ≡ true
    → list_any (λ r. nat_eq run r) (with_run answer running) ≡ true
more_runs run None running goes = goes
more_runs run (Some number) running goes = by (nat_eq run number)
  where
    by : (b : Bool) → (b || list_any (λ r. nat_eq run r) running) ≡ true
    by true = refl
    by false = goes

-- the run that was given goes on
new_runs : (run : ℕ) (answer : Option ℕ) (running : List ℕ) → Some run ≡ answer → list_any (λ r. nat_eq run r) (with_run answer running) ≡ true
new_runs run None running is = absurd cc
new_runs run (Some number) running is =
    ap (λ b. b || list_any (λ r. nat_eq run r) running) (eq-eqb run number (same_Some _ _ is))

-- a run goes on over a start
start_goes : (run : ℕ) (l m : LauncherData) (start : StartData) (answer : Option ℕ) → goes_on run l ≡ true → StartsRun (Some l) start answer (Some m)
    → goes_on run m ≡ true
start_goes run l m start answer goes (inl (is, after)) =
    subst (λ (m : LauncherData). goes_on run m ≡ true) (sym (same_Some _ _ after)) (more_runs run (next_answer l.answers) l.running goes)
start_goes run l m start answer goes (inr none) = absurd cc

-- and over a turn
turn_goes : (run : ℕ) (fired : FiredData) (running : Option ℕ) (l m : LauncherData) → goes_on run l ≡ true → AgreesWith fired running l (Some m)
    → goes_on run m ≡ true
turn_goes run (runs r) running l m goes (yet, same) = subst (λ (m : LauncherData). goes_on run m ≡ true) (sym (same_Some _ _ same)) goes
turn_goes run quiet running l m goes (free, same) = subst (λ (m : LauncherData). goes_on run m ≡ true) (sym (same_Some _ _ same)) goes
turn_goes run short running l m goes (free, same) = subst (λ (m : LauncherData). goes_on run m ≡ true) (sym (same_Some _ _ same)) goes
turn_goes run (started r start) running l m goes (free, starts) = start_goes run l m start (Some r) goes starts
turn_goes run (failed start) running l m goes (free, starts) = start_goes run l m start None goes starts

-- the command of a trigger runs: a turn passes over it
turn_passes : (instance : InstanceData) (view : ViewData) (fired : FiredData) (t after : TriggerData) (run : ℕ) (l m : LauncherData)
    → t.running ≡ Some run → goes_on run l ≡ true → Fires instance view t fired after → AgreesWith fired t.running l (Some m)
    → (after ≡ t) × ((other : ℕ) (start : StartData) → fired ≢ started other start)
turn_passes instance view fired t after run l m has goes fires agrees = by fired fires agrees
  where
    busy : IsFree t.running l → ⊥
    busy free = false≢true (sym (subst (λ (o : Option ℕ). IsFree o l) has free) ∙ goes)

    by : (fired : FiredData) → Fires instance view t fired after → AgreesWith fired t.running l (Some m)
        → (after ≡ t) × ((other : ℕ) (start : StartData) → fired ≢ started other start)
    by (runs r) fires agrees = (fires.1, λ other start is. cc)
    by quiet fires agrees = absurd (busy agrees.0)
    by short fires agrees = absurd (busy agrees.0)
    by (started r start) fires agrees = absurd (busy agrees.0)
    by (failed start) fires agrees = absurd (busy agrees.0)

-- a turn starts the command: that run goes on, and is the trigger's
turn_starts : (instance : InstanceData) (view : ViewData) (fired : FiredData) (t after : TriggerData) (run : ℕ) (start : StartData) (l m : LauncherData)
    → fired ≡ started run start → Fires instance view t fired after → AgreesWith fired t.running l (Some m)
    → (after.running ≡ Some run) × (goes_on run m ≡ true)
turn_starts instance view fired t after run start l m is fires agrees =
    let does = subst (λ (f : FiredData). Fires instance view t f after) is fires in
    let with = subst (λ (f : FiredData). AgreesWith f t.running l (Some m)) is agrees in
    (ap (λ t. t.running) does.1, given with.1)
  where
    given : StartsRun (Some l) start (Some run) (Some m) → goes_on run m ≡ true
    given (inl (same, after)) =
        subst (λ (m : LauncherData). goes_on run m ≡ true) (sym (same_Some _ _ after)) (new_runs run (next_answer l.answers) l.running same)
    given (inr none) = absurd cc

module _ (instance : InstanceData) (view : ViewData) where
  -- a launcher that shows nothing shows nothing later
  none_shown : (ts : ByName TriggerData) (turns : List TriggerTurnData) (left : LauncherData) → HaveTurns instance view ts None turns (Some left) → ⊥
  none_shown [] [] left had = cc
  none_shown [] (u ∷ turns) left had = elim had [ ]
  none_shown (t ∷ ts) [] left had = elim had [ ]
  none_shown (t ∷ ts) (u ∷ turns) left (name, fires, (next, none, later)) =
      none_shown ts turns left (subst (λ (o : Option LauncherData). HaveTurns instance view ts o turns (Some left)) none later)

  -- a run goes on over all turns
  pub turns_go : (run : ℕ) (ts : ByName TriggerData) (turns : List TriggerTurnData) (l left : LauncherData) → goes_on run l ≡ true
      → HaveTurns instance view ts (Some l) turns (Some left) → goes_on run left ≡ true
  turns_go run [] [] l left goes had = subst (λ (m : LauncherData). goes_on run m ≡ true) (sym (same_Some _ _ had)) goes
  turns_go run [] (u ∷ turns) l left goes had = elim had [ ]
  turns_go run (t ∷ ts) [] l left goes had = elim had [ ]
  turns_go run (t ∷ ts) (u ∷ turns) l left goes (name, fires, (None, agrees, later)) = absurd (none_shown ts turns left later)
  turns_go run (t ∷ ts) (u ∷ turns) l left goes (name, fires, (Some m, agrees, later)) =
      turns_go run ts turns m left (turn_goes run u.fired (t.1).running l m goes agrees) later

  -- a round passes over a trigger whose command runs
  abbrev pub Passes : List ℕ → ℕ → List TriggerTurnData → Type 0
  Passes name run turns = (run_in (under name (after_turns turns)) ≡ Some run)
      × ((other : ℕ) (start : StartData) → fired_for name turns ≢ Some (started other start))

  -- the same by whether the first turn is that of the trigger
  abbrev AtTurn : List ℕ → ℕ → TriggerTurnData → List TriggerTurnData → Bool → Type 0
  AtTurn name run u turns b = (run_in (if b then Some u.after else under name (after_turns turns)) ≡ Some run)
      × ((other : ℕ) (start : StartData) → (if b then Some u.fired else fired_for name turns) ≢ Some (started other start))

  pub turns_pass : (name : List ℕ) (run : ℕ) (ts : ByName TriggerData) (turns : List TriggerTurnData) (l left : LauncherData) → run_in (under name ts) ≡ Some run
      → goes_on run l ≡ true → HaveTurns instance view ts (Some l) turns (Some left) → Passes name run turns
  turns_pass name run [] turns l left has goes had = absurd cc
  turns_pass name run (t ∷ ts) [] l left has goes had = elim had [ ]
  turns_pass name run (t ∷ ts) (u ∷ turns) l left has goes (named, fires, (None, agrees, later)) = absurd (none_shown ts turns left later)
  turns_pass name run (t ∷ ts) (u ∷ turns) l left has goes (named, fires, (Some m, agrees, later)) =
      subst (λ (n : List ℕ). AtTurn name run u turns (bytes_eq name n)) (sym named)
      (by (bytes_eq name t.0) has (λ has. turns_pass name run ts turns m left has (turn_goes run u.fired (t.1).running l m goes agrees) later))
    where
      by : (b : Bool) → run_in (if b then Some t.1 else under name ts) ≡ Some run
          → (run_in (under name ts) ≡ Some run → Passes name run turns) → AtTurn name run u turns b
      by true has rest =
          let passes = turn_passes instance view u.fired t.1 u.after run l m has goes fires agrees in
          (ap (λ t. t.running) passes.0 ∙ has, λ other start is. passes.1 other start (same_Some _ _ is))
      by false has rest = rest has

  -- a round starts the command of a trigger
  pub turns_start : (name : List ℕ) (run : ℕ) (start : StartData) (ts : ByName TriggerData) (turns : List TriggerTurnData) (l left : LauncherData)
      → HaveTurns instance view ts (Some l) turns (Some left) → fired_for name turns ≡ Some (started run start)
      → (run_in (under name (after_turns turns)) ≡ Some run) × (goes_on run left ≡ true)
  turns_start name run start [] [] l left had is = absurd cc
  turns_start name run start [] (u ∷ turns) l left had is = elim had [ ]
  turns_start name run start (t ∷ ts) [] l left had is = elim had [ ]
  turns_start name run start (t ∷ ts) (u ∷ turns) l left (named, fires, (None, agrees, later)) is = absurd (none_shown ts turns left later)
  turns_start name run start (t ∷ ts) (u ∷ turns) l left (named, fires, (Some m, agrees, later)) is =
      by (bytes_eq name u.name) is (turns_start name run start ts turns m left later)
    where
      by : (b : Bool) → (if b then Some u.fired else fired_for name turns) ≡ Some (started run start)
          → (fired_for name turns ≡ Some (started run start) → (run_in (under name (after_turns turns)) ≡ Some run) × (goes_on run left ≡ true))
          → (run_in (if b then Some u.after else under name (after_turns turns)) ≡ Some run) × (goes_on run left ≡ true)
      by true is rest =
          let starts = turn_starts instance view u.fired t.1 u.after run start l m (same_Some _ _ is) fires agrees in
          (starts.0, turns_go run ts turns m left starts.1 later)
      by false is rest = rest is

-- the triggers of the root of a round, after it
pub after_round : (root : ℕ) (name : List ℕ) (run : ℕ) (turns : List TriggerTurnData) (shelf after : ShelfNow) → after ≡ with_triggers root (after_turns turns) shelf
    → (numbered root shelf.roots ≡ None → turns ≡ []) → run_in (under name (after_turns turns)) ≡ Some run → run_at root name after ≡ Some run
after_round root name run turns shelf after is none has =
    by (put_triggers root (after_turns turns) shelf.roots)
  where
    by : (numbered root shelf.roots ≡ None) ⊎ (triggers_in (numbered root (changed root (λ r. record r { triggers = after_turns turns }) shelf.roots)) ≡ after_turns turns)
        → run_at root name after ≡ Some run
    by (inl missing) =
        absurd (empty (subst (λ (turns : List TriggerTurnData). run_in (under name (after_turns turns)) ≡ Some run) (none missing) has))
      where
        empty : None ≡ Some run → ⊥
        empty is = cc
    by (inr put) = ap (run_at root name) is ∙ ap (λ ts. run_in (under name ts)) put ∙ has

-- a root that is not there has no turns
pub no_turns : (instance : InstanceData) (view : ViewData) (shelf : ShelfNow) (turns : List TriggerTurnData) (shown left : Option LauncherData)
    → HaveTurns instance view (triggers_of instance.root shelf) shown turns left → numbered instance.root shelf.roots ≡ None → turns ≡ []
no_turns instance view shelf turns shown left had none =
    by turns (subst (λ (o : Option (RootData TriggerData)). HaveTurns instance view (triggers_in o) shown turns left) none had)
  where
    by : (turns : List TriggerTurnData) → HaveTurns instance view [] shown turns left → turns ≡ []
    by [] had = refl
    by (u ∷ turns) had = elim had [ ]
