-- A round in a world leaves out no trigger of its root.
use Rattle.std.proofs.Common.{◌≡◌, ◌⊎◌, ℕ, List, [], ◌∷◌, ◌++◌, map, Option, Some, None, option_map, inl, inr, refl, ap, sym, subst, ◌∙◌}
use Rattle.wq_clock.specs.Instance.{InstanceData}
use Rattle.wq_clock.specs.Run.{instance_of}
use Rattle.wq_follow.specs.Launcher.{LauncherData, TriedData}
use Rattle.wq_follow.specs.Round.{FiredData, TriggerData, failed, quiet, runs, short, started}
use Rattle.wq_live.specs.Event.{number_of}
use Rattle.wq_live.specs.Table.{IsTableOf, RootView, TableData, has_text, root_by_text}
use Rattle.wq_registry.specs.ByName.{ByName}
use Rattle.wq_registry.specs.Shelf.{triggers_of}
use Rattle.wq_replay.specs.Rounds.{HasRound, RoundsFound}
use Rattle.wq_replay.specs.Runs.{launcher_at}
use Rattle.wq_replay.specs.World.{SentData, WorldData}
use Rattle.wq_session.specs.Round.{HaveTurns, TriggerTurnData, after_turns}
use Rattle.wq_view.specs.View.{ViewData}
use Rattle.wq_headline.specs.Triggers.{IsRoundOf, RoundsAreExact, TakeTurns, turn_lines}
use Rattle.wq_headline.proofs.Lists.{found_view, number_by}
use Rattle.wq_headline.proofs.Starting.{note_of, round_tried, tried_in, tried_of}

-- the lines of a turn, before those of others
turn_first : (fired : FiredData) (later : List TriedData) → map note_of (tried_in fired ++ later) ≡ turn_lines fired ++ map note_of later
turn_first (runs r) later = refl
turn_first quiet later = refl
turn_first (started r start) later = refl
turn_first (failed start) later = refl
turn_first short later = refl

take_turns : (instance : InstanceData) (view : ViewData) (ts : ByName TriggerData) (turns : List TriggerTurnData) (shown left : Option LauncherData)
    → HaveTurns instance view ts shown turns left → TakeTurns instance view ts (map note_of (tried_of turns)) (after_turns turns)
take_turns instance view [] [] shown left had = (refl, refl)
take_turns instance view [] (u ∷ turns) shown left had = elim had [ ]
take_turns instance view (t ∷ ts) [] shown left had = elim had [ ]
take_turns instance view (t ∷ ts) (u ∷ turns) shown left (name, fires, (next, agrees, later)) = (
  u.fired,
  u.after,
  map note_of (tried_of turns),
  after_turns turns,
  fires,
  turn_first u.fired (tried_of turns),
  ap (λ n. (n, u.after) ∷ after_turns turns) name,
  take_turns instance view ts turns next left later,
)

round_of : (root : List ℕ) (answers : List (Option ℕ)) (world after : WorldData) (sent : List SentData) (table : TableData) → IsTableOf world.events table → (shown : RootView)
    → root_by_text root table ≡ Some shown → HasRound (instance_of world.run shown.number) shown.view answers world sent after → IsRoundOf root world sent after
round_of root answers world after sent table is shown found had = record {
  number = shown.number;
  found = sym (number_by world.events table is root) ∙ ap (option_map (λ (r : RootView). r.number)) found;
  view = shown.view;
  seen = found_view world.events table is (has_text root) shown found;
  triggers = after_turns (had.round).turns;
  turns = subst (λ l. TakeTurns (instance_of world.run shown.number) shown.view (triggers_of shown.number world.shelf) l (after_turns (had.round).turns))
      (sym (had.tells ∙ ap (map note_of)
      (round_tried (instance_of world.run shown.number) shown.view (triggers_of shown.number world.shelf) (had.round).turns (launcher_at answers world.runs)
      had.left refl (had.round).had)))
      (take_turns (instance_of world.run shown.number) shown.view (triggers_of shown.number world.shelf) (had.round).turns (Some (launcher_at answers world.runs))
      (Some had.left) (had.round).had);
  left = ap (λ w. w.shelf) had.is ∙ (had.round).is;
}

-- the law
pub rounds_are_exact : RoundsAreExact
rounds_are_exact world after root answers sent (table, is, goes) = by (root_by_text root table) refl goes
  where
    by : (shown : Option RootView) → root_by_text root table ≡ shown → RoundsFound shown answers world sent after
        → ((number_of root world.events ≡ None) × (sent ≡ [])) ⊎ IsRoundOf root world sent after
    by None absent (empty, same) = inl (sym (number_by world.events table is root) ∙ ap (option_map (λ (r : RootView). r.number)) absent, empty)
    by (Some shown) found had = inr (round_of root answers world after sent table is shown found had)
