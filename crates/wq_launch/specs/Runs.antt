-- The numbers of the commands that run.
-- They are this server's own.
use Rattle.std.specs.Prelude.{◌≡◌, ◌<◌, ◌≤◌, ℕ, zero, suc, ◌+◌, ◌%◌, ◌^◌, Bool, false, not}
use Rattle.std.specs.Prelude.{nat_eq, nat_lt, if◌then◌else◌, List, [], ◌∷◌, ◌++◌, length, filter}
use Rattle.std.specs.Prelude.{MatchOption, Option, Some, None}
use Rattle.std.specs.List.{list_any}
use Rattle.wq_launch.specs.Limit.{max_runs}

-- the numbers that are given to the commands that run
pub record RunsData : Type 0 where
  -- the number that was given last
  pub last : ℕ
  pub running : List ℕ

-- whether one of these numbers is this one
abbrev pub is_running : ℕ → List ℕ → Bool
is_running run running = list_any (λ r. nat_eq r run) running

-- the number after another: 0 after the greatest of 32 bits
abbrev pub number_after : ℕ → ℕ
number_after number = (number + 1) % 2 ^ 32

-- the first of so many numbers, from one on, that is not among these
unfoldable pub first_free : ℕ → ℕ → List ℕ → Option ℕ
first_free zero number running = None
first_free (suc count) number running =
    if is_running number running then first_free count (number_after number) running
    else Some number

-- the number for the next command: the first after the last one that no running command has. There
-- is none if as many run as may
abbrev pub next_number : RunsData → Option ℕ
next_number t =
    if nat_lt (length t.running) max_runs
    then first_free (max_runs + 1) (number_after t.last) t.running
    else None

-- the numbers once one was given
abbrev pub with_number : Option ℕ → RunsData → RunsData
with_number None t = t
with_number (Some number) t = record { last = number; running = t.running ++ number ∷ [] }

-- the next command is given its number
abbrev pub GivesNumber : RunsData → Option ℕ → RunsData → Type 0
GivesNumber old result new = (result ≡ next_number old) × (new ≡ with_number result old)

-- the numbers but this one
abbrev pub without_run : ℕ → List ℕ → List ℕ
without_run run running = filter (λ r. not (nat_eq r run)) running

-- a number is given if fewer commands run than may, and no running command has it
abbrev pub NumbersAreFree : Type 0
NumbersAreFree = (t : RunsData) → t.last < 2 ^ 32 → MatchOption (next_number t)
    (max_runs ≤ length t.running) (λ number. is_running number t.running ≡ false)
