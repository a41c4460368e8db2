-- The taking of the lines of a script from a reader, each in bounded memory.
-- It is this server's own.
use Rattle.std.specs.Prelude.{◌≡◌, ◌⊎◌, ◌<◌, ℕ, zero, suc, ◌+◌, ◌-◌, Bool, true, false, ◌||◌, ◌==◌, List, [], ◌∷◌, ◌++◌, length, take, Option, Some}
use Rattle.std.specs.Io.BufRead.{take_through}
use Rattle.wq_base.specs.Byte.{newline}
use Rattle.wq_replay.specs.Limit.{max_script_line}
use Rattle.wq_replay.specs.Line.{lines_of}

-- how many bytes of a line are kept, with its newline. One byte over the limit shows that a line is
-- too long
abbrev pub max_kept : ℕ
max_kept = max_script_line + 1

-- the kept part of the first line of some bytes, with room for so many: the line, or a front of it
abbrev pub kept_line : ℕ → List ℕ → List ℕ
kept_line room bytes = take_through newline (take room bytes)

-- the first line of some bytes stops within them: at its newline, or at the end of the room
abbrev pub stops_within : ℕ → List ℕ → Bool
stops_within zero bytes = true
stops_within (suc room) [] = false
stops_within (suc room) (byte ∷ bytes) = byte == newline || stops_within room bytes

-- nothing is taken after these bytes: the line stops within them, or there are none
abbrev pub is_last_line : ℕ → List ℕ → Bool
is_last_line room bytes = stops_within room bytes || length bytes == 0

-- a front of these bytes was taken after the bytes that were taken before. If the line stops there,
-- that is all that is kept of it. Otherwise as much is still to come
abbrev pub TakesPart : List ℕ → List ℕ → Bool → List ℕ → Option (List ℕ) → Type 0
TakesPart bytes before true after rest =
    (left : List ℕ) × (rest ≡ Some left) × (before ++ bytes ≡ after ++ left)
    × (before ++ kept_line (max_kept - length before) bytes ≡ after)
TakesPart bytes before false after rest =
    (left : List ℕ) × (rest ≡ Some left) × (before ++ bytes ≡ after ++ left)
    × (before ++ kept_line (max_kept - length before) bytes
    ≡ after ++ kept_line (max_kept - length after) left)

-- some bytes begin with this line, and those come after it; or both are too long
abbrev pub BeginsWith : List ℕ → List ℕ → List ℕ → Type 0
BeginsWith bytes line left =
    (lines_of bytes ≡ line ∷ lines_of left)
    ⊎ ((max_script_line < length line) × (whole : List ℕ) × (more : List (List ℕ))
    × (lines_of bytes ≡ whole ∷ more) × (max_script_line < length whole))

-- so many of some bytes are taken for their first line, if any are left, and those come after it
abbrev pub TakesLine : List ℕ → ℕ → List ℕ → Option (List ℕ) → Type 0
TakesLine bytes zero line rest = (bytes ≡ []) × (rest ≡ Some [])
TakesLine bytes (suc taken) line rest =
    (left : List ℕ) × (rest ≡ Some left) × (length bytes ≡ suc taken + length left)
    × BeginsWith bytes line left
