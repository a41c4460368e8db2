-- The launcher in memory, and its answers.
use Rattle.std.proofs.Common.{◌≡◌, ◌⊎◌, ℕ, Bool, true, false, is_err, List, [], ◌∷◌, ◌++◌, Option, Some, None, Result, Ok, Err, OnOk, inl, inr, refl, sym, ap, subst, ◌∙◌}
use Rattle.std.specs.declared.alloc.AllocError.{AllocError}
use Rattle.wq_follow.specs.Launcher.{LauncherData, StartsRun, TriedData, later_answers, next_answer, with_run}
use Rattle.wq_follow.specs.Start.{StartData}
use Rattle.wq_follow.specs.Started.{start_data}
use Rattle.wq_follow.specs.declared.start.Start.{Start}
use Rattle.wq_replay.specs.Launched.{all_tried, launcher_data, launcher_shown, runs_data, shown_unless, tried_data, with_tried}
use Rattle.wq_replay.specs.declared.launcher.MemoryLauncher.{MemoryLauncher}
use Rattle.wq_replay.specs.declared.launcher.Tried.{Tried}

-- a launcher of these parts
abbrev launcher_of : List (Option ℕ) → List ℕ → List TriedData → LauncherData
launcher_of answers running tried = record { answers = answers; running = running; tried = tried }

same_parts : (answers others : List (Option ℕ)) (running more : List ℕ) (tried all : List TriedData) → answers ≡ others → running ≡ more → tried ≡ all
    → launcher_of answers running tried ≡ launcher_of others more all
same_parts answers others running more tried all a r t =
    ap (λ x. launcher_of x running tried) a ∙ ap (λ x. launcher_of others x tried) r ∙ ap (launcher_of others more) t

-- one more start was tried
tried_more : (tried : List Tried) (t : Tried) → all_tried (tried ++ t ∷ []) ≡ all_tried tried ++ tried_data t ∷ []
tried_more [] t = refl
tried_more (first ∷ tried) t = ap (λ all. tried_data first ∷ all) (tried_more tried t)

-- a start had the next answer, and was kept
answered : (start : StartData) (run : Option ℕ) (answers later : List (Option ℕ)) (running now : List ℕ) (had has : List TriedData) → run ≡ next_answer answers
    → later ≡ later_answers answers → now ≡ with_run run running → has ≡ had ++ record { start = start; run = run } ∷ []
    → StartsRun (Some (launcher_of answers running had)) start run (Some (launcher_of later now has))
answered start run answers later running now had has is left goes tried =
    inl (
      is,
      ap Some (same_parts later (later_answers answers) now (with_run (next_answer answers) running) has (had ++ record { start = start; run = next_answer answers } ∷ [])
          left (goes ∙ ap (λ r. with_run r running) is) (tried ∙ ap (λ (r : Option ℕ). had ++ record { start = start; run = r } ∷ []) is)),
    )

-- memory ran out for it
starts_spent : (start : StartData) (run : Option ℕ) (l : LauncherData) (spent : Bool) → StartsRun (shown_unless spent l) start run None
starts_spent start run l true = refl
starts_spent start run l false = inr refl

starts_shown : (start : StartData) (run : Option ℕ) (l next : LauncherData) (spent : Bool) → StartsRun (Some l) start run (Some next)
    → StartsRun (shown_unless spent l) start run (shown_unless spent next)
starts_shown start run l next true starts = refl
starts_shown start run l next false starts = starts

-- the launcher after a start: it was kept, or memory ran out for it
abbrev pub IsKept : Result (Unit {0}) AllocError → MemoryLauncher → MemoryLauncher → Type 0
IsKept keeps kept now = ((is_err keeps ≡ true) × (now.spent ≡ true)) ⊎ ((is_err keeps ≡ false) × (launcher_shown now ≡ launcher_shown kept))

pub start_told : (old kept now : MemoryLauncher) (start : Start) (run : Option ℕ) (keeps : Result (Unit {0}) AllocError) → run ≡ next_answer old.answers.items
    → kept.answers.items ≡ later_answers old.answers.items → OnOk keeps (kept.tried.items ≡ with_tried start run old.tried.items)
    → OnOk keeps (runs_data kept.runs ≡ with_run run (runs_data old.runs)) → kept.spent ≡ old.spent
    → IsKept keeps kept now → StartsRun (launcher_shown old) (start_data start) run (launcher_shown now)
start_told old kept now start run keeps answer later tried running spent (inl (fails, is)) =
    subst (λ (b : Bool). StartsRun (launcher_shown old) (start_data start) run (shown_unless b (launcher_data now))) (sym is)
    (starts_spent (start_data start) run (launcher_data old) old.spent)
start_told old kept now start run (Err error) answer later tried running spent (inr (well, is)) = absurd cc
start_told old kept now start run (Ok done) answer later tried running spent (inr (well, is)) =
    subst (λ (o : Option LauncherData). StartsRun (launcher_shown old) (start_data start) run o) (sym is)
    (subst (λ (b : Bool). StartsRun (launcher_shown old) (start_data start) run (shown_unless b (launcher_data kept))) (sym spent)
    (starts_shown (start_data start) run (launcher_data old) (launcher_data kept) old.spent
    (answered (start_data start) run old.answers.items kept.answers.items (runs_data old.runs) (runs_data kept.runs) (all_tried old.tried.items) (all_tried kept.tried.items)
    answer later running (ap all_tried tried ∙ tried_more old.tried.items (record { start = start; run = run })))))
