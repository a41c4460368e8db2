-- The bytes that separate names, lines and texts. Names are paths as POSIX has them.
use Rattle.std.specs.Prelude.{ℕ, Bool, ◌==◌}
use Rattle.std.specs.Str.{byte}

-- the byte that separates the names of a path
abbrev pub is_slash : ℕ → Bool
is_slash b = b == byte "/"

-- the byte that hides a file at the front of its name, and begins its suffix
abbrev pub is_dot : ℕ → Bool
is_dot b = b == byte "."

-- the byte that separates the numbers of a clock id
abbrev pub is_colon : ℕ → Bool
is_colon b = b == byte ":"

-- the byte that ends a line
abbrev pub newline : ℕ
newline = byte "\n"
