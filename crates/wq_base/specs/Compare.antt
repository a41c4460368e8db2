-- Comparisons of numbers and texts. The source is Watchman's documentation of the terms `size`,
-- `name` and `suffix`.
use Rattle.std.specs.Prelude.{ℕ, ℤ, int_lt, int_le, Bool, not, ◌&&◌, ◌==◌, List, length, bytes_eq}
use Rattle.std.specs.Cmp.Lexicographic.{slice_cmp}
use Rattle.std.specs.Ordering.{int_eq, nat_cmp}
use Rattle.std.specs.Str.{str_eq_ignore_ascii_case, str_to_ascii_lowercase}
use Rattle.std.specs.declared.cmp.Ordering.{Ordering}
use Rattle.wq_base.specs.declared.compare.Case.{Case}
use Rattle.wq_base.specs.declared.compare.Case.TheVariants.{Exact, Folded}
use Rattle.wq_base.specs.declared.compare.Relation.{Relation}
use Rattle.wq_base.specs.declared.compare.Relation.TheVariants.{Eq, Ne, Lt, Le, Gt, Ge}

-- whether this relation holds between the first number and the second
abbrev pub compares : Relation → ℤ → ℤ → Bool
compares Eq x y = int_eq x y
compares Ne x y = not (int_eq x y)
compares Lt x y = int_lt x y
compares Le x y = int_le x y
compares Gt x y = int_lt y x
compares Ge x y = int_le y x

-- whether two texts are the same: byte by byte, or if A to Z count as a to z
abbrev pub same_text : Case → List ℕ → List ℕ → Bool
same_text Exact x y = bytes_eq x y
same_text Folded x y = str_eq_ignore_ascii_case x y

-- whether a text is this suffix, if A to Z count as a to z; an empty text is no suffix
abbrev pub is_suffix : List ℕ → List ℕ → Bool
is_suffix text suffix = not (length text == 0) && same_text Folded text suffix

-- the order of the bytes of two texts, if A to Z count as a to z
abbrev pub folded_order : List ℕ → List ℕ → Ordering
folded_order first second =
    slice_cmp nat_cmp (str_to_ascii_lowercase first) (str_to_ascii_lowercase second)
