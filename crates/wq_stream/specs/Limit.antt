-- The limit of a client's lines, which is this server's own. No public document names one.
use Rattle.std.specs.Prelude.{ℕ}

-- the most bytes of a line, without its newline
abbrev pub max_line : ℕ
max_line = 1048576
