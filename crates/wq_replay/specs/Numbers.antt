-- The answers of the launcher in a script, whose starts all succeed in a round, or all fail. No
-- number of a run comes again.
-- It is this server's own.
use Rattle.std.specs.Prelude.{ℕ, ◌-◌, Bool, true, false, min, List, map, Option, Some}
use Rattle.std.specs.List.{range_with_len}
use Rattle.wq_registry.specs.Limit.{max_triggers}

-- no run of a script has this number or a greater one
abbrev pub max_run : ℕ
max_run = 4294967295

-- how many numbers a round gets, if this one is the next: one for each trigger that a root may
-- have, if so many are left. If each start is to fail, it gets none
abbrev pub numbers_for : Bool → ℕ → ℕ
numbers_for true next = min (max_run - next) max_triggers
numbers_for false next = 0

-- the answers to the starts of such a round
abbrev pub answers_for : Bool → ℕ → List (Option ℕ)
answers_for succeeds next = map Some (range_with_len next (numbers_for succeeds next))
