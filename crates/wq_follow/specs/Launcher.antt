-- The launcher of the commands of triggers, and the facts that it shows. It is this server's own.
use Rattle.std.specs.Prelude.{◌≡◌, ◌<◌, ◌⊎◌, ◌^◌, ◌-◌, ℕ, Bool, true, not, nat_eq}
use Rattle.std.specs.Prelude.{List, [], ◌∷◌, ◌++◌, Option, Some, None, Result, Ok, Err}
use Rattle.std.specs.List.{list_any}
use Rattle.wq_follow.specs.Start.{StartData}
use Rattle.wq_follow.specs.declared.launch.LaunchFault.{LaunchFault}

-- the greatest count of failures that can be told
abbrev pub most_failures : ℕ
most_failures = 2 ^ 64 - 1

-- a count of failures rose; at the greatest count it may have risen
abbrev pub Rose : ℕ → ℕ → Type 0
Rose before after = (before < after) ⊎ (after ≡ most_failures)

-- a start, and the number of its run, unless it failed
pub record TriedData : Type 0 where
  pub start : StartData
  pub run : Option ℕ

-- a launcher: its answers to the starts to come, one after the other; the runs that go on; and the
-- starts that it was given
pub record LauncherData : Type 0 where
  pub answers : List (Option ℕ)
  pub running : List ℕ
  pub tried : List TriedData

-- the answer to the next start: one without an answer fails
abbrev pub next_answer : List (Option ℕ) → Option ℕ
next_answer [] = None
next_answer (answer ∷ later) = answer

-- the answers after it
abbrev pub later_answers : List (Option ℕ) → List (Option ℕ)
later_answers [] = []
later_answers (answer ∷ later) = later

-- the runs that go on once a start was answered
abbrev pub with_run : Option ℕ → List ℕ → List ℕ
with_run None running = running
with_run (Some run) running = run ∷ running

-- a launcher after a start
abbrev pub after_start : StartData → LauncherData → LauncherData
after_start start l = record {
  answers = later_answers l.answers;
  running = with_run (next_answer l.answers) l.running;
  tried = l.tried ++ record { start = start; run = next_answer l.answers } ∷ [];
}

-- the number that was given
abbrev pub run_of : Result ℕ LaunchFault → Option ℕ
run_of (Ok run) = Some run
run_of (Err fault) = None

-- the launcher answers a start in this way: by its next answer, if it shows its answers. It may
-- show nothing from then on, if memory ran out for the facts that it shows
abbrev pub StartsRun : Option LauncherData → StartData → Option ℕ → Option LauncherData → Type 0
StartsRun None start run after = after ≡ None
StartsRun (Some l) start run after =
    ((run ≡ next_answer l.answers) × (after ≡ Some (after_start start l))) ⊎ (after ≡ None)

-- whether a run goes on
abbrev pub goes_on : ℕ → LauncherData → Bool
goes_on run l = list_any (λ r. nat_eq run r) l.running

-- the launcher answers in this way whether a run has ended
abbrev pub EndsRun : Option LauncherData → ℕ → Bool → Option LauncherData → Type 0
EndsRun None run ended after = after ≡ None
EndsRun (Some l) run ended after = (ended ≡ not (goes_on run l)) × (after ≡ Some l)

-- whether the command of a trigger does not run, as the launcher answered; it is not asked about a
-- trigger that was not started
abbrev pub AsksRun : Option ℕ → Bool → Option LauncherData → Option LauncherData → Type 0
AsksRun None free before after = (free ≡ true) × (after ≡ before)
AsksRun (Some run) free before after = EndsRun before run free after
