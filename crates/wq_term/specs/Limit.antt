-- The limits of expressions, which are this server's own.
-- Watchman's documentation of file queries names none.
use Rattle.std.specs.Prelude.{ℕ}

-- how many terms may be inside one another, the outermost counted
abbrev pub max_depth : ℕ
max_depth = 64

-- the most bytes of a text in `name`, `suffix` and `dirname`
abbrev pub max_term_text : ℕ
max_term_text = 4096
