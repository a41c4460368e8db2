-- A round in a world, by the steps of the code.
use Rattle.std.proofs.Common.{◌≡◌, ℕ, Bool, true, false, if◌then◌else◌, List, [], ◌∷◌, map, Option, Some, None, option_map, refl, sym, ap, subst, ◌∙◌}
use Rattle.std.specs.Option.{option_and_then}
use Rattle.std.specs.Str.{IsUtf8, is_utf8}
use Rattle.std.proofs.lemmas.Str.{IsUtf8-from_is_utf8, is_utf8-from_IsUtf8}
use Rattle.std.proofs.lemmas.Option.{same_Some}
use Rattle.wq_clock.specs.Instance.{InstanceData}
use Rattle.wq_clock.specs.Run.{instance_of}
use Rattle.wq_follow.specs.Launcher.{LauncherData, TriedData}
use Rattle.wq_follow.specs.Followed.{trigger_data}
use Rattle.wq_follow.specs.declared.trigger.Trigger.{Trigger}
use Rattle.wq_live.specs.Event.{number_of}
use Rattle.wq_live.specs.Table.{RootView}
use Rattle.wq_registry.specs.ByName.{under}
use Rattle.wq_registry.specs.Root.{RootData, numbered, triggers_in}
use Rattle.wq_registry.specs.Shelf.{ShelfData}
use Rattle.wq_session.proofs.Shelves.{called_now_at}
use Rattle.wq_session.specs.At.{ShelfNow}
use Rattle.wq_session.specs.Round.{IsRound}
use Rattle.wq_session.specs.Shelved.{shelf_data}
use Rattle.wq_session.specs.Trigger.{run_in, trigger_called}
use Rattle.wq_view.specs.View.{ViewData}
use Rattle.wq_replay.specs.Launched.{all_tried, launcher_data, launcher_shown, runs_data, shown_unless}
use Rattle.wq_replay.specs.Replay.{end_if, ends_of}
use Rattle.wq_replay.specs.Rounds.{HasRound, RoundsFound, fired, trigger_run, sent_note}
use Rattle.wq_replay.specs.Runs.{launcher_at}
use Rattle.wq_replay.specs.StartLine.{tried_text}
use Rattle.wq_replay.specs.World.{SentData, WorldData, root_text, unrefused}
use Rattle.wq_replay.specs.declared.launcher.MemoryLauncher.{MemoryLauncher}

-- the lines about starts that were tried
notes_of : (tried : List TriedData) → map sent_note (map tried_text tried) ≡ map (λ t. sent_note (tried_text t)) tried
notes_of [] = refl
notes_of (t ∷ tried) = ap (λ notes. sent_note (tried_text t) ∷ notes) (notes_of tried)

-- the parts of a round that the code did
pub has_round : (before : WorldData) (instance : InstanceData) (view : ViewData) (answers : List (Option ℕ)) (shelf left : ShelfNow) (mine : List ℕ)
    (launcher : MemoryLauncher) (shown : Option LauncherData) (lines : List (List ℕ)) → before.shelf ≡ shelf → before.runs ≡ mine
    → IsRound instance view shelf shown left (launcher_shown launcher) → shown ≡ Some (launcher_at answers mine) → launcher.spent ≡ false
    → lines ≡ map tried_text (all_tried launcher.tried.items)
    → HasRound instance view answers before (map sent_note lines) (fired left (runs_data launcher.runs) before)
has_round before instance view answers shelf left mine launcher shown lines held runs had begins whole about = record {
  shelf = left;
  left = launcher_data launcher;
  round = subst (λ (o : Option LauncherData). IsRound instance view before.shelf (Some (launcher_at answers before.runs)) left o)
      (ap (λ b. shown_unless b (launcher_data launcher)) whole)
      (subst (λ (r : List ℕ). IsRound instance view before.shelf (Some (launcher_at answers r)) left (launcher_shown launcher)) (sym runs)
      (subst (λ (o : Option LauncherData). IsRound instance view before.shelf o left (launcher_shown launcher)) begins
      (subst (λ (s : ShelfNow). IsRound instance view s shown left (launcher_shown launcher)) (sym held) had)));
  tells = ap (map sent_note) about ∙ notes_of (all_tried launcher.tried.items);
  is = refl;
}

-- a round of a root that is found with this number and view
pub rounds_found : (found : Option RootView) (number : ℕ) (view : ViewData) (instance : InstanceData) (answers : List (Option ℕ)) (before : WorldData)
    (sent : List SentData) (after : WorldData)
    → Some number ≡ option_map (λ (r : RootView). r.number) found → Some view ≡ option_map (λ (r : RootView). r.view) found
    → instance ≡ instance_of before.run number → HasRound instance view answers before sent after → RoundsFound found answers before sent after
rounds_found None number view instance answers before sent after numbered viewed is had = absurd cc
rounds_found (Some r) number view instance answers before sent after numbered viewed is had =
    subst (λ (v : ViewData). HasRound (instance_of before.run r.number) v answers before sent after) (same_Some _ _ viewed)
    (subst (λ (i : InstanceData). HasRound i view answers before sent after) (is ∙ ap (instance_of before.run) (same_Some _ _ numbered)) had)

-- no root is found
pub rounds_none : (found : Option RootView) (answers : List (Option ℕ)) (before : WorldData) (lines : List (List ℕ)) → None ≡ option_map (λ (r : RootView). r.number) found
    → lines ≡ [] → RoundsFound found answers before (map sent_note lines) (unrefused before)
rounds_none None answers before lines none empty = (ap (map sent_note) empty, refl)
rounds_none (Some r) answers before lines none empty = absurd cc

-- the run of a trigger, by the trigger that is found on the code's shelf
pub run_found : (before : WorldData) (shelf : ShelfData Trigger) (root name : List ℕ) (number : ℕ) (o : Option (RootData Trigger)) (t : Option Trigger)
    → before.shelf ≡ shelf_data shelf → number_of root before.events ≡ Some number → numbered number shelf.roots ≡ o → under name (triggers_in o) ≡ t
    → trigger_run root name before ≡ run_in (option_map trigger_data t)
run_found before shelf root name number o t held shown found is =
    ap (λ (s : ShelfNow). option_and_then (λ n. run_in (trigger_called n name s)) (number_of root before.events)) held
    ∙ ap (λ (n : Option ℕ). option_and_then (λ n. run_in (trigger_called n name (shelf_data shelf))) n) shown
    ∙ ap run_in (called_now_at number name shelf o found ∙ ap (option_map trigger_data) is)

-- the end of a run, if the name is a text, and if it is not
pub ends_text : (name : List ℕ) (before : WorldData) → IsUtf8 name → ends_of name before ≡ end_if (trigger_run root_text name before)
ends_text name before text =
    ap (λ b. if b then end_if (trigger_run root_text name before) else []) (is_utf8-from_IsUtf8 name text)

pub ends_no_text : (name : List ℕ) (before : WorldData) → (IsUtf8 name → ⊥) → ends_of name before ≡ []
ends_no_text name before none = by (is_utf8 name) refl
  where
    by : (b : Bool) → is_utf8 name ≡ b → (if b then end_if (trigger_run root_text name before) else []) ≡ []
    by true is = absurd (none (IsUtf8-from_is_utf8 name is))
    by false is = refl
