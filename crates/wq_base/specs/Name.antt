-- The parts of a name, and whole seconds of a time in milliseconds. Watchman's documentation of the
-- expression terms defines basename and suffix.
use Rattle.std.specs.Prelude.{ℕ, ℤ, pos, if◌then◌else◌, List, []}
use Rattle.std.specs.Int.{int_div_euclid}
use Rattle.std.specs.List.{list_any, after_last}
use Rattle.wq_base.specs.Byte.{is_slash, is_dot}

-- the text after the last slash, or the whole name if it has no slash
abbrev pub basename_of : List ℕ → List ℕ
basename_of name = after_last is_slash name

-- the text after the last dot of the basename, or nothing if it has no dot
abbrev pub suffix_of : List ℕ → List ℕ
suffix_of name =
    if list_any is_dot (basename_of name) then after_last is_dot (basename_of name) else []

-- milliseconds as whole seconds, rounded down: -1 ms is in second -1
abbrev pub seconds_of : ℤ → ℤ
seconds_of ms = int_div_euclid ms (pos 1000)
