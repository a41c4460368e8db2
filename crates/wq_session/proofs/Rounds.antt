-- A round, one trigger after the other.
use Rattle.std.proofs.Common.{◌≡◌, ◌<◌, ◌+◌, ℕ, zero, suc, Bool, true, false, nat_eq, if◌then◌else◌, List, [], ◌∷◌, ◌++◌, length, Option, Some, option_map, refl, sym, ap, subst, ◌∙◌, arith, length-append, slice_get, flat_map}
use Rattle.std.proofs.lemmas.List.{append-nil, append_assoc}
use Rattle.std.proofs.lemmas.Option.{same_Some}
use Rattle.wq_clock.specs.Instance.{InstanceData}
use Rattle.wq_follow.specs.Followed.{trigger_data}
use Rattle.wq_follow.specs.Launcher.{LauncherData}
use Rattle.wq_follow.specs.Round.{Agrees, CountsFailure, FiredData, Fires, TriggerData}
use Rattle.wq_follow.specs.declared.trigger.Trigger.{Trigger}
use Rattle.wq_registry.proofs.Changes.{places_are_names}
use Rattle.wq_registry.proofs.Watches.{triggers_are_made}
use Rattle.wq_registry.specs.ByName.{ByName, names, put, put_at, values}
use Rattle.wq_registry.specs.Change.{Change, PlacesAreNames, made, putting}
use Rattle.wq_registry.specs.History.{after_all, since_added, trigger_change}
use Rattle.wq_registry.specs.Root.{RootData, changed, numbered, triggers_in, with_trigger, with_trigger_at}
use Rattle.wq_registry.specs.Shelf.{ShelfData, blank, trigger_changed, triggers_of}
use Rattle.wq_view.specs.View.{ViewData}
use Rattle.wq_session.specs.At.{ShelfNow}
use Rattle.wq_session.specs.Round.{CountFailures, HasTurn, HaveTurns, IsCountedRound, RoundsAreCalls, TriggerTurnData, after_turns, turn_calls, with_triggers}
use Rattle.wq_session.specs.Shelved.{each, shelf_data}
use Rattle.wq_session.proofs.Shelves.{changed_with, triggers_now}

-- a root with these triggers
abbrev holding : {T : Type 0} → ByName T → RootData T → RootData T
holding ts r = record r { triggers = ts }

module _ {T : Type 0} (number : ℕ) where
  -- triggers that are there once more change nothing
  same_triggers : (rs : List (RootData T)) → changed number (holding (triggers_in (numbered number rs))) rs ≡ rs
  same_triggers [] = refl
  same_triggers (r ∷ rs) = by (nat_eq number r.number) (same_triggers rs)
    where
      by : (b : Bool) → changed number (holding (triggers_in (numbered number rs))) rs ≡ rs
          → (if b then holding (triggers_in (if b then Some r else numbered number rs)) r ∷ rs
          else r ∷ changed number (holding (triggers_in (if b then Some r else numbered number rs))) rs) ≡ r ∷ rs
      by true later = refl
      by false later = ap (λ xs. r ∷ xs) later

  -- one change after another
  both_changes : (first second : RootData T → RootData T) → ((r : RootData T) → (first r).number ≡ r.number)
      → (rs : List (RootData T)) → changed number second (changed number first rs) ≡ changed number (λ r. second (first r)) rs
  both_changes first second keeps [] = refl
  both_changes first second keeps (r ∷ rs) = by (nat_eq number r.number) refl (both_changes first second keeps rs)
    where
      by : (b : Bool) → nat_eq number r.number ≡ b → changed number second (changed number first rs) ≡ changed number (λ r. second (first r)) rs
          → changed number second (if b then first r ∷ rs else r ∷ changed number first rs)
          ≡ (if b then second (first r) ∷ rs else r ∷ changed number (λ r. second (first r)) rs)
      by true is later =
          ap (λ b. if b then second (first r) ∷ rs else first r ∷ changed number second rs) (ap (nat_eq number) (keeps r) ∙ is)
      by false is later =
          ap (λ b. if b then second r ∷ changed number first rs else r ∷ changed number second (changed number first rs)) is
          ∙ ap (λ xs. r ∷ xs) later

  -- the triggers that were put to a root are there, if the root is
  set_triggers : (ts : ByName T) (rs : List (RootData T)) (t : List ℕ × T) (some : ByName T) (before : ByName T)
      → triggers_in (numbered number rs) ≡ before ++ t ∷ some → triggers_in (numbered number (changed number (holding ts) rs)) ≡ ts
  set_triggers ts [] t some [] is = absurd cc
  set_triggers ts [] t some (x ∷ xs) is = absurd cc
  set_triggers ts (r ∷ rs) t some before is = by (nat_eq number r.number) refl is (set_triggers ts rs t some before)
    where
      by : (b : Bool) → nat_eq number r.number ≡ b → triggers_in (if b then Some r else numbered number rs) ≡ before ++ t ∷ some
          → (triggers_in (numbered number rs) ≡ before ++ t ∷ some → triggers_in (numbered number (changed number (holding ts) rs)) ≡ ts)
          → triggers_in (numbered number (if b then holding ts r ∷ rs else r ∷ changed number (holding ts) rs)) ≡ ts
      by true same is later = ap (λ b. triggers_in (if b then Some (holding ts r) else numbered number rs)) same
      by false same is later =
          ap (λ b. triggers_in (if b then Some r else numbered number (changed number (holding ts) rs))) same ∙ later is

  -- a change of the triggers of the root, which are these
  same_change : (change : ByName T → ByName T) (rs : List (RootData T))
      → changed number (λ r. holding (change r.triggers) r) rs ≡ changed number (holding (change (triggers_in (numbered number rs)))) rs
  same_change change [] = refl
  same_change change (r ∷ rs) = by (nat_eq number r.number) (same_change change rs)
    where
      by : (b : Bool)
          → changed number (λ r. holding (change r.triggers) r) rs ≡ changed number (holding (change (triggers_in (numbered number rs)))) rs
          → (if b then holding (change r.triggers) r ∷ rs else r ∷ changed number (λ r. holding (change r.triggers) r) rs)
          ≡ (if b then holding (change (triggers_in (if b then Some r else numbered number rs))) r ∷ rs
          else r ∷ changed number (holding (change (triggers_in (if b then Some r else numbered number rs)))) rs)
      by true later = refl
      by false later = ap (λ xs. r ∷ xs) later

module _ {A : Type 0} where
  -- the element between others
  pub got_between : (front : ByName A) (x : List ℕ × A) (later : ByName A) (k : ℕ) → length front ≡ k
      → slice_get (values (front ++ x ∷ later)) k ≡ Some x.1
  got_between [] x later zero is = refl
  got_between [] x later (suc k) is = absurd cc
  got_between (y ∷ front) x later zero is = absurd cc
  got_between (y ∷ front) x later (suc k) is = got_between front x later k (omega (arith, is))

  named_between : (front : ByName A) (x : List ℕ × A) (later : ByName A) → slice_get (names (front ++ x ∷ later)) (length front) ≡ Some x.0
  named_between [] x later = refl
  named_between (y ∷ front) x later = named_between front x later

  put_between : (front : ByName A) (x : List ℕ × A) (later : ByName A) (k : ℕ) (a : A) → length front ≡ k
      → put_at k a (front ++ x ∷ later) ≡ front ++ (x.0, a) ∷ later
  put_between [] x later zero a is = refl
  put_between [] x later (suc k) a is = absurd cc
  put_between (y ∷ front) x later zero a is = absurd cc
  put_between (y ∷ front) x later (suc k) a is = ap (λ ys. y ∷ ys) (put_between front x later k a (omega (arith, is)))

  made_more : (changes : List (Change A)) (c : Change A) (xs : ByName A) → made (changes ++ c ∷ []) xs ≡ made (c ∷ []) (made changes xs)
  made_more [] c xs = refl
  made_more (d ∷ changes) c xs = made_more changes c _

-- the shelf as its roots are
abbrev shelf_of : ShelfNow → List (RootData TriggerData) → ShelfNow
shelf_of shelf roots = record { programs = shelf.programs; roots = roots; sockname = shelf.sockname }

-- the triggers of the root once more
same_shelf : (root : ℕ) (shelf : ShelfNow) → with_triggers root (triggers_of root shelf) shelf ≡ shelf
same_shelf root shelf = ap (shelf_of shelf) (same_triggers root shelf.roots)

-- other triggers twice
other_shelf : (root : ℕ) (first second : ByName TriggerData) (shelf : ShelfNow)
    → with_triggers root second (with_triggers root first shelf) ≡ with_triggers root second shelf
other_shelf root first second shelf = ap (shelf_of shelf) (both_changes root (holding first) (holding second) (λ r. refl) shelf.roots)

-- the turns of so many triggers
pub record Had (instance : InstanceData) (view : ViewData) (ts : ByName TriggerData) (shelf : ShelfNow) (shown : Option LauncherData)
    (count place : ℕ) (now : ShelfNow) (left : Option LauncherData) (counted : ℕ) : Type 0 where
  pub front : ByName TriggerData
  pub later : ByName TriggerData
  pub turns : List TriggerTurnData
  pub parts : ts ≡ front ++ later
  pub placed : length front ≡ place
  pub had : HaveTurns instance view front shown turns left
  pub is : now ≡ with_triggers instance.root (after_turns turns ++ later) shelf
  pub counts : CountFailures turns count counted

-- one more turn is counted
count_more : (turns : List TriggerTurnData) (turn : TriggerTurnData) (count next counted : ℕ) → CountFailures turns count next
    → CountsFailure turn.fired next counted → CountFailures (turns ++ turn ∷ []) count counted
count_more [] turn count next counted is counts = (counted, subst (λ n. CountsFailure turn.fired n counted) is counts, refl)
count_more (u ∷ turns) turn count next counted (mid, first, rest) counts = (mid, first, count_more turns turn mid next counted rest counts)

module _ (instance : InstanceData) (view : ViewData) (shelf : ShelfNow) (shown : Option LauncherData) (count : ℕ) where
  -- at first no trigger had its turn
  pub none_had : Had instance view (triggers_of instance.root shelf) shelf shown count 0 shelf shown count
  none_had = record {
    front = [];
    later = triggers_of instance.root shelf;
    turns = [];
    parts = refl;
    placed = refl;
    had = refl;
    is = sym (same_shelf instance.root shelf);
    counts = refl;
  }

  -- one more turn
  had_more : (front : ByName TriggerData) (t : List ℕ × TriggerData) (turns : List TriggerTurnData) (turn : TriggerTurnData)
      (shown next left : Option LauncherData) → HaveTurns instance view front shown turns next → turn.name ≡ t.0
      → Fires instance view t.1 turn.fired turn.after → Agrees turn.fired (t.1).running next left
      → HaveTurns instance view (front ++ t ∷ []) shown (turns ++ turn ∷ []) left
  had_more [] t [] turn shown next left had name fires agrees =
      (name, fires, (left, subst (λ o. Agrees turn.fired (t.1).running o left) had agrees, refl))
  had_more [] t (u ∷ turns) turn shown next left had name fires agrees = elim had [ ]
  had_more (x ∷ front) t [] turn shown next left had name fires agrees = elim had [ ]
  had_more (x ∷ front) t (u ∷ turns) turn shown next left had name fires agrees = (
    had.0,
    had.1,
    ((had.2).0, (had.2).1, had_more front t turns turn _ next left (had.2).2 name fires agrees),
  )

  after_more : (turns : List TriggerTurnData) (turn : TriggerTurnData) → after_turns (turns ++ turn ∷ []) ≡ after_turns turns ++ (turn.name, turn.after) ∷ []
  after_more [] turn = refl
  after_more (u ∷ turns) turn = ap (λ ts. (u.name, u.after) ∷ ts) (after_more turns turn)

  as_many : (front : ByName TriggerData) (turns : List TriggerTurnData) (shown left : Option LauncherData)
      → HaveTurns instance view front shown turns left → length (after_turns turns) ≡ length front
  as_many [] [] shown left had = refl
  as_many [] (u ∷ turns) shown left had = elim had [ ]
  as_many (x ∷ front) [] shown left had = elim had [ ]
  as_many (x ∷ front) (u ∷ turns) shown left had = ap suc (as_many front turns _ left (had.2).2)

  -- the triggers that are there by then
  there_now : (place : ℕ) (now : ShelfNow) (left : Option LauncherData) (front later : ByName TriggerData) (t : List ℕ × TriggerData)
      (turns : List TriggerTurnData) → triggers_of instance.root shelf ≡ front ++ t ∷ later
      → now ≡ with_triggers instance.root (after_turns turns ++ t ∷ later) shelf
      → triggers_of instance.root now ≡ after_turns turns ++ t ∷ later
  there_now place now left front later t turns parts is =
      ap (λ (s : ShelfNow). triggers_of instance.root s) is
      ∙ set_triggers instance.root (after_turns turns ++ t ∷ later) shelf.roots t later front parts

  -- the next trigger had its turn
  one_had : (place : ℕ) (now after : ShelfNow) (left last : Option LauncherData) (next counted : ℕ) (front later : ByName TriggerData) (turns : List TriggerTurnData)
      → triggers_of instance.root shelf ≡ front ++ later → length front ≡ place → place < length (triggers_of instance.root shelf)
      → HaveTurns instance view front shown turns left → now ≡ with_triggers instance.root (after_turns turns ++ later) shelf
      → CountFailures turns count next → HasTurn instance view now place left next after last counted
      → Had instance view (triggers_of instance.root shelf) shelf shown count (place + 1) after last counted
  one_had place now after left last next counted front [] turns parts placed more had is counts turn =
      absurd (omega (arith, more, ap length parts, length-append front [], placed))
  one_had place now after left last next counted front (t ∷ later) turns parts placed more had is counts turn =
      let it = turn (after_turns turns) t later (there_now place now left front later t turns parts is) (as_many front turns shown left had ∙ placed) in
      record {
        front = front ++ t ∷ [];
        later = later;
        turns = turns ++ it.0 ∷ [];
        parts = parts ∙ sym (append_assoc front (t ∷ []) later);
        placed = omega (arith, length-append front (t ∷ []), placed);
        had = had_more front t turns it.0 shown left last had it.1 it.2 it.3;
        is = it.4
            ∙ ap (with_triggers instance.root (after_turns turns ++ (t.0, (it.0).after) ∷ later)) is
            ∙ other_shelf instance.root (after_turns turns ++ t ∷ later) (after_turns turns ++ (t.0, (it.0).after) ∷ later) shelf
            ∙ ap (λ ts. with_triggers instance.root ts shelf)
            (ap (λ name. after_turns turns ++ (name, (it.0).after) ∷ later) (sym it.1)
            ∙ sym (append_assoc (after_turns turns) (((it.0).name, (it.0).after) ∷ []) later)
            ∙ ap (λ ts. ts ++ later) (sym (after_more turns it.0)));
        counts = count_more turns it.0 count next counted counts it.5;
      }

  pub next_had : (place : ℕ) (now after : ShelfNow) (left last : Option LauncherData) (next counted : ℕ)
      → Had instance view (triggers_of instance.root shelf) shelf shown count place now left next
      → place < length (triggers_of instance.root shelf) → HasTurn instance view now place left next after last counted
      → Had instance view (triggers_of instance.root shelf) shelf shown count (place + 1) after last counted
  next_had place now after left last next counted so more turn =
      one_had place now after left last next counted so.front so.later so.turns so.parts so.placed more so.had so.is so.counts turn

  -- there are as many triggers as before
  pub as_many_now : (place : ℕ) (now : ShelfNow) (left : Option LauncherData) (next : ℕ)
      → Had instance view (triggers_of instance.root shelf) shelf shown count place now left next
      → place < length (triggers_of instance.root shelf) → place < length (triggers_of instance.root now)
  as_many_now place now left next so more = by so.front so.later so.turns so.parts so.placed so.had so.is
    where
      by : (front later : ByName TriggerData) (turns : List TriggerTurnData) → triggers_of instance.root shelf ≡ front ++ later
          → length front ≡ place → HaveTurns instance view front shown turns left
          → now ≡ with_triggers instance.root (after_turns turns ++ later) shelf → place < length (triggers_of instance.root now)
      by front [] turns parts placed had is = absurd (omega (arith, more, ap length parts, length-append front [], placed))
      by front (t ∷ later) turns parts placed had is =
          omega (
            arith,
            ap length (there_now place now left front later t turns parts is),
            length-append (after_turns turns) (t ∷ later),
            as_many front turns shown left had,
            placed,
          )

  -- all had their turns
  pub all_had : (place : ℕ) (now : ShelfNow) (left : Option LauncherData) (counted : ℕ)
      → Had instance view (triggers_of instance.root shelf) shelf shown count place now left counted
      → place ≡ length (triggers_of instance.root shelf) → IsCountedRound instance view shelf shown count now left counted
  all_had place now left counted so all = by so.front so.later so.turns so.parts so.placed so.had so.is so.counts
    where
      by : (front later : ByName TriggerData) (turns : List TriggerTurnData) → triggers_of instance.root shelf ≡ front ++ later
          → length front ≡ place → HaveTurns instance view front shown turns left
          → now ≡ with_triggers instance.root (after_turns turns ++ later) shelf → CountFailures turns count counted
          → IsCountedRound instance view shelf shown count now left counted
      by front [] turns parts placed had is counts = (
        record {
          turns = turns;
          had = subst (λ ts. HaveTurns instance view ts shown turns left) (sym (parts ∙ append-nil front)) had;
          is = is ∙ ap (λ ts. with_triggers instance.root ts shelf) (append-nil (after_turns turns));
        },
        counts,
      )
      by front (t ∷ later) turns parts placed had is counts =
          absurd (omega (arith, all, ap length parts, length-append front (t ∷ later), placed))

-- another trigger at a place, on the shelf of the code
pub turned : (root : ℕ) (s : ShelfData Trigger) (k : ℕ) (w : Trigger) (front : ByName TriggerData) (t : List ℕ × TriggerData) (later : ByName TriggerData)
    → triggers_of root (shelf_data s) ≡ front ++ t ∷ later → length front ≡ k
    → shelf_data (trigger_changed root k w s) ≡ with_triggers root (front ++ (t.0, trigger_data w) ∷ later) (shelf_data s)
turned root s k w front t later parts placed =
    ap (λ roots. record { programs = s.programs; roots = roots; sockname = s.sockname })
    (sym (changed_with trigger_data root (with_trigger_at k w) (λ r. holding (put_at k (trigger_data w) r.triggers) r)
    (λ r. ap (λ ts. record { text = r.text; number = r.number; cursors = r.cursors; triggers = ts }) (sym (put_at_with k w r.triggers))) s.roots)
    ∙ same_change root (put_at k (trigger_data w)) (shelf_data s).roots
    ∙ ap (λ ts. changed root (holding ts) (shelf_data s).roots)
    (ap (put_at k (trigger_data w)) parts ∙ put_between front t later k (trigger_data w) placed))
  where
    put_at_with : (k : ℕ) (w : Trigger) (xs : ByName Trigger) → put_at k (trigger_data w) (each trigger_data xs) ≡ each trigger_data (put_at k w xs)
    put_at_with k w [] = refl
    put_at_with zero w (x ∷ xs) = refl
    put_at_with (suc k) w (x ∷ xs) = ap (λ ys. (x.0, trigger_data x.1) ∷ ys) (put_at_with k w xs)

-- the trigger at the place
pub found : (root : ℕ) (s : ShelfData Trigger) (k : ℕ) (front : ByName TriggerData) (t : List ℕ × TriggerData) (later : ByName TriggerData)
    → triggers_of root (shelf_data s) ≡ front ++ t ∷ later → length front ≡ k
    → option_map trigger_data (slice_get (values (triggers_of root s)) k) ≡ Some t.1
found root s k front t later parts placed =
    get_with (triggers_of root s) k ∙ ap (λ ts. slice_get (values ts) k) (sym (triggers_now root s) ∙ parts) ∙ got_between front t later k placed
  where
    get_with : (xs : ByName Trigger) (k : ℕ) → option_map trigger_data (slice_get (values xs) k) ≡ slice_get (values (each trigger_data xs)) k
    get_with [] k = refl
    get_with (x ∷ xs) zero = refl
    get_with (x ∷ xs) (suc k) = get_with xs k

-- a trigger had its turn by these, on the shelf of the code
pub had_turn : (instance : InstanceData) (view : ViewData) (s : ShelfData Trigger) (k : ℕ) (shown left : Option LauncherData) (count counted : ℕ) (old new : Trigger)
    → slice_get (values (triggers_of instance.root s)) k ≡ Some old
    → (front : ByName TriggerData) (t : List ℕ × TriggerData) (later : ByName TriggerData)
    → triggers_of instance.root (shelf_data s) ≡ front ++ t ∷ later → length front ≡ k
    → (fired : FiredData) → Fires instance view (trigger_data old) fired (trigger_data new) → Agrees fired (trigger_data old).running shown left
    → CountsFailure fired count counted → (turn : TriggerTurnData) × (turn.name ≡ t.0) × Fires instance view t.1 turn.fired turn.after × Agrees turn.fired (t.1).running shown left
    × (shelf_data (trigger_changed instance.root k new s) ≡ with_triggers instance.root (front ++ (t.0, turn.after) ∷ later) (shelf_data s))
    × CountsFailure turn.fired count counted
had_turn instance view s k shown left count counted old new got front t later parts placed fired fires agrees counts =
    let same : trigger_data old ≡ t.1 =
    same_Some (trigger_data old) t.1 (ap (option_map trigger_data) (sym got) ∙ found instance.root s k front t later parts placed) in (
      record { name = t.0; fired = fired; after = trigger_data new },
      refl,
      subst (λ (x : TriggerData). Fires instance view x fired (trigger_data new)) same fires,
      subst (λ (x : TriggerData). Agrees fired x.running shown left) same agrees,
      turned instance.root s k new front t later parts placed,
      counts,
    )

module _ (instance : InstanceData) (view : ViewData) (shelf : ShelfNow) (places : PlacesAreNames TriggerData) where
  -- the calls of the turns that are left
  steps : (done todo : ByName TriggerData) (turns : List TriggerTurnData) (shown left : Option LauncherData) (changes : List (Change TriggerData))
      → made changes [] ≡ done ++ todo → HaveTurns instance view todo shown turns left
      → with_triggers instance.root (done ++ after_turns turns) shelf
      ≡ after_all (turn_calls instance.root turns) (with_triggers instance.root (done ++ todo) shelf)
  steps done [] [] shown left changes is had = refl
  steps done [] (u ∷ turns) shown left changes is had = elim had [ ]
  steps done (t ∷ todo) [] shown left changes is had = elim had [ ]
  steps done (t ∷ todo) (turn ∷ turns) shown left changes is had =
      let next : ByName TriggerData = done ++ (turn.name, turn.after) ∷ [] in
      let named : slice_get (names (made changes [])) (length done) ≡ Some turn.name =
      ap (λ xs. slice_get (names xs) (length done)) is ∙ named_between done t todo ∙ ap Some (sym had.0) in
      let so : put turn.name turn.after (made changes []) ≡ next ++ todo =
      sym (places changes (length done) turn.name turn.after named)
      ∙ ap (put_at (length done) turn.after) is ∙ put_between done t todo (length done) turn.after refl
      ∙ ap (λ name. done ++ (name, turn.after) ∷ todo) (sym had.0)
      ∙ sym (append_assoc done ((turn.name, turn.after) ∷ []) todo) in
      ap (λ ts. with_triggers instance.root ts shelf) (sym (append_assoc done ((turn.name, turn.after) ∷ []) (after_turns turns)))
      ∙ steps next todo turns _ left (changes ++ putting turn.name turn.after ∷ []) (made_more changes (putting turn.name turn.after) [] ∙ so) (had.2).2
      ∙ ap (after_all (turn_calls instance.root turns))
      (sym (ap (shelf_of shelf) (both_changes instance.root (holding (done ++ t ∷ todo)) (with_trigger turn.name turn.after) (λ r. refl) shelf.roots)
      ∙ ap (λ ts. with_triggers instance.root ts shelf) (ap (put turn.name turn.after) (sym is) ∙ so)))

-- the law
pub rounds_are_calls : RoundsAreCalls
rounds_are_calls instance view calls sockname shown after left round =
    let shelf = after_all calls (blank sockname) in
    round.is ∙ steps instance view shelf places_are_names [] (triggers_of instance.root shelf) round.turns shown left
    (flat_map (trigger_change instance.root) (since_added instance.root (blank sockname) calls))
    (sym (triggers_are_made calls sockname instance.root)) round.had
    ∙ ap (after_all (turn_calls instance.root round.turns)) (same_shelf instance.root shelf)
