-- The limits of patterns and of the texts that they are tried on, which are this library's own.
-- git's documentation of wildmatch names none.
use Rattle.std.specs.Prelude.{ℕ}

-- the most bytes of a pattern
abbrev pub max_pattern_length : ℕ
max_pattern_length = 255

-- the most bytes of a text that a pattern is tried on: those of the longest name of a file
abbrev pub max_matched_text : ℕ
max_matched_text = 4096
