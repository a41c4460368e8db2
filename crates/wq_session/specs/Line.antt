-- A line: a text, and the newline at its end.
-- It is this server's own.
use Rattle.std.specs.Prelude.{◌≡◌, ℕ, ◌-◌, List, ◌++◌, length, take, codes}

-- a line without the newline at its end
abbrev pub line_text : List ℕ → List ℕ
line_text line = take (length line - 1) line

-- a line ends with a newline
abbrev pub IsLine : List ℕ → Type 0
IsLine line = line ≡ line_text line ++ codes "\n"
