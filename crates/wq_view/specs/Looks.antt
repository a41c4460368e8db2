-- How looks at records are counted. The count is this server's own.
use Rattle.std.specs.Prelude.{◌+◌, ◌-◌, ◌^◌, ℕ, zero, suc, min}

-- a count after so many looks more, each counted by itself; it stops at the greatest number
abbrev pub count_after : ℕ → ℕ → ℕ
count_after zero count = count
count_after (suc looks) count = count_after looks (min (count + 1) (2 ^ 64 - 1))
