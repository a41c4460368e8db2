-- The limits of scripts and of their lines, in bytes. The newline of a line does not count for the
-- line.
-- They are this server's own.
use Rattle.std.specs.Prelude.{ℕ}

-- a line of a script
abbrev pub max_script_line : ℕ
max_script_line = 1048640

-- a script, with its newlines
abbrev pub max_script : ℕ
max_script = 1073741824
