-- The limits of clock specs, which are this server's own. Watchman's documentation of clockspecs
-- names no limits.
use Rattle.std.specs.Prelude.{ℕ}

-- the most bytes of a cursor's name
abbrev pub max_cursor_name : ℕ
max_cursor_name = 255
