-- The lines of a script: each ends at a newline, except that the last line may lack one.
-- It is this server's own.
use Rattle.std.specs.Prelude.{ℕ, ◌==◌, List, [], ◌∷◌, if◌then◌else◌}
use Rattle.wq_base.specs.Byte.{newline}

-- a byte before the first line. If there is no line, the byte makes one
abbrev pub put_first : ℕ → List (List ℕ) → List (List ℕ)
put_first byte [] = (byte ∷ []) ∷ []
put_first byte (line ∷ lines) = (byte ∷ line) ∷ lines

-- the lines of some bytes, without their newlines
abbrev pub lines_of : List ℕ → List (List ℕ)
lines_of [] = []
lines_of (byte ∷ bytes) =
    if byte == newline then [] ∷ lines_of bytes else put_first byte (lines_of bytes)
