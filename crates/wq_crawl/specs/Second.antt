-- The seconds that the machine's clock gives, one after the other. No public document defines it.
use Rattle.std.specs.Prelude.{ℤ, int_le, if◌then◌else◌, Option, Some, None}

-- the second that is given after this one: the one that the clock shows, if that is later. If it is
-- not later, or cannot be read, the same second again
abbrev pub next_second : ℤ → Option ℤ → ℤ
next_second last None = last
next_second last (Some now) = if int_le last now then now else last
