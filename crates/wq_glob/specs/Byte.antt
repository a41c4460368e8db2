-- The bytes that mean something in a pattern, and ASCII letters without their case.
-- After wildmatch, the pattern language of git's `.gitignore` and of Watchman's term `match`.
use Rattle.std.specs.Prelude.{ℕ, ◌+◌, ◌-◌, Bool, ◌==◌, nat_le, ◌&&◌, if◌then◌else◌}
use Rattle.std.specs.Str.{byte}

-- the byte that stands for any bytes
abbrev pub is_star : ℕ → Bool
is_star b = b == byte "*"

-- the byte that begins a class
abbrev pub is_open : ℕ → Bool
is_open b = b == byte "["

-- the byte that ends a class
abbrev pub is_close : ℕ → Bool
is_close b = b == byte "]"

-- the byte between the ends of a range
abbrev pub is_dash : ℕ → Bool
is_dash b = b == byte "-"

-- the backslash, which takes its meaning off the byte after it
abbrev pub is_escape : ℕ → Bool
is_escape b = b == byte "\\"

-- a byte from `low` to `high`, both included
abbrev pub is_between : ℕ → ℕ → ℕ → Bool
is_between low high b = nat_le low b && nat_le b high

-- A to Z
abbrev pub is_upper : ℕ → Bool
is_upper b = is_between (byte "A") (byte "Z") b

-- a to z
abbrev pub is_lower : ℕ → Bool
is_lower b = is_between (byte "a") (byte "z") b

-- how far a small letter is after its capital
abbrev pub case_distance : ℕ
case_distance = byte "a" - byte "A"

-- A to Z as a to z, every other byte unchanged
unfoldable pub lower_of : ℕ → ℕ
lower_of b = if is_upper b then b + case_distance else b

-- a to z as A to Z, every other byte unchanged
unfoldable pub upper_of : ℕ → ℕ
upper_of b = if is_lower b then b - case_distance else b

-- a byte as it is compared: in lower case if `fold` says so
abbrev pub lower_if : Bool → ℕ → ℕ
lower_if fold b = if fold then lower_of b else b
