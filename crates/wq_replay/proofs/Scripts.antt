-- The lines of a script make one run of its world.
use Rattle.std.proofs.Common.{◌≡◌, ℕ, List, [], ◌∷◌, ◌++◌, refl, sym, ap, subst, ◌∙◌}
use Rattle.wq_replay.specs.Replay.{DoesAll, DoesLine, Plays, crawled, ends_of, moments, rounds, sent_lines}
use Rattle.wq_replay.specs.Numbers.{answers_for}
use Rattle.wq_replay.specs.Stage.{StageData, Turn, drafts, lists, hears, rests, fires, finishes, given_out, malformed, turn_of}
use Rattle.wq_replay.specs.Playing.{Runs}
use Rattle.wq_replay.specs.World.{HappeningData, SentData}
use Rattle.wq_replay.proofs.Sendings.{lines_then}
use Rattle.wq_replay.proofs.Worlds.{runs_go_on}

-- from one stage to another the world runs, and this is written of it
abbrev pub RunsTo : StageData → List ℕ → StageData → Type 0
RunsTo stage written after = (happenings : List HappeningData) × (sent : List SentData)
    × Runs stage.world happenings sent after.world × (written ≡ sent_lines sent)

-- happenings are a run
all_runs : (stage after : StageData) (happenings : List HappeningData) (written : List ℕ) → DoesAll stage happenings written after → RunsTo stage written after
all_runs stage after happenings written (sent, world, runs, lines, is) =
    (happenings, sent, subst (Runs stage.world happenings sent) (sym (ap (λ s. s.world) is)) runs, lines)

-- the effect of a line is a run
turn_runs : (stage after : StageData) (turn : Turn) (written : List ℕ) → DoesLine stage turn written after → RunsTo stage written after
turn_runs stage after (drafts draft) written (none, is) = ([], [], (refl, ap (λ s. s.world) is), none)
turn_runs stage after (lists crawls tree) written (world, runs, none, is) =
    (crawled crawls tree, [], subst (Runs stage.world (crawled crawls tree) []) (sym (ap (λ s. s.world) is)) runs, none)
turn_runs stage after (hears client event) written (sent, world, heard, goes_on, lines, is) =
    (_, sent, subst (Runs stage.world _ sent) (sym (ap (λ s. s.world) is)) heard.runs, lines)
turn_runs stage after (rests client) written does = all_runs stage after (moments client stage.world) written does
turn_runs stage after (fires succeeds) written does = all_runs (given_out succeeds stage) after (rounds (answers_for succeeds stage.next)) written does
turn_runs stage after (finishes name) written does = all_runs stage after (ends_of name stage.world) written does
turn_runs stage after malformed written does = absurd does

-- so are all lines, one after the other
pub scripts_are_runs : (stage after : StageData) (lines : List (List ℕ)) (written : List ℕ) → Plays stage lines written after
    → RunsTo stage written after
scripts_are_runs stage after [] written (none, is) = ([], [], (refl, ap (λ s. s.world) is), none)
scripts_are_runs stage after (line ∷ lines) written (next, first, later, does, is, plays) =
    let now = turn_runs stage next (turn_of stage line) first does in
    let behind = scripts_are_runs next after lines later plays in (
      now.0 ++ behind.0,
      now.1 ++ behind.1,
      runs_go_on stage.world next.world after.world now.0 behind.0 now.1 behind.1 now.2 behind.2,
      is ∙ ap (λ xs. xs ++ later) now.3 ∙ ap (λ xs. sent_lines now.1 ++ xs) behind.3 ∙ sym (lines_then now.1 behind.1),
    )
