-- The runs of the commands of triggers in a world, and the launcher that answers a round there.
-- It is this server's own.
use Rattle.std.specs.Prelude.{ℕ, not, nat_eq, List, [], filter, Option}
use Rattle.wq_follow.specs.Launcher.{LauncherData}

-- the launcher at the beginning of a round, by its answers to the starts, one after the other, and
-- by the runs that go on
abbrev pub launcher_at : List (Option ℕ) → List ℕ → LauncherData
launcher_at answers running = record { answers = answers; running = running; tried = [] }

-- the runs that go on, without those of one number
abbrev pub other_runs : ℕ → List ℕ → List ℕ
other_runs run running = filter (λ r. not (nat_eq run r)) running
