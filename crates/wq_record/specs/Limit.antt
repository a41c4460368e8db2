-- The limits of names and ticks, which are this server's own.
-- Watchman's documentation names none of them.
use Rattle.std.specs.Prelude.{ℕ}
use Rattle.wq_base.specs.Limit.{max_number}

-- the most bytes of a name
abbrev pub max_name : ℕ
max_name = 4096

-- the last tick of a view
abbrev pub max_tick : ℕ
max_tick = max_number
