-- The greatest cost of a program, on a name of a given length. This server's own measure of cost:
-- the charges of wq_code's machine.
use Rattle.std.specs.Prelude.{ℕ, ◌+◌, ◌*◌, max, List, [], ◌∷◌, length, sum_by, slice_get}
use Rattle.std.specs.Option.{option_map_or}
use Rattle.wq_glob.specs.Pattern.{PatternData, atoms_of}
use Rattle.wq_code.specs.declared.operation.Op.{Op}
use Rattle.wq_code.specs.declared.operation.Op.TheVariants.{OneOf, Match, AnyMatch}
use Rattle.wq_code.specs.declared.raw.Raw.{Raw}

-- the length of the longest text
abbrev pub longest_len : List (List ℕ) → ℕ
longest_len [] = 0
longest_len (text ∷ texts) = max (length text) (longest_len texts)

-- the most bytes that a text on the stack can have
abbrev pub width_of : Raw → ℕ → ℕ
width_of raw name_len = max name_len (longest_len raw.texts)

-- the most that a pattern can cost on a text of this width: a cell for each atom and one, at each
-- byte and once more
abbrev pub most_pattern_cost : ℕ → PatternData → ℕ
most_pattern_cost width p = (length (atoms_of p) + 1) * (width + 1)

-- the most that a pattern can cost at each place of a text
abbrev pub pattern_weight : PatternData → ℕ
pattern_weight p = length (atoms_of p) + 1

-- the most that the patterns of a set can cost together at each place of a text
abbrev pub set_weight : List PatternData → ℕ
set_weight patterns = sum_by pattern_weight patterns

-- the most that an instruction can cost with texts of this width: 1. For `Match` it is the cost of
-- its pattern more, for `AnyMatch` those of all patterns of its set, for `OneOf` the entries of its
-- list
abbrev pub most_cost : Raw → ℕ → Op → ℕ
most_cost raw width (Match place) =
    1 + option_map_or (most_pattern_cost width) (slice_get raw.patterns place) 0
most_cost raw width (AnyMatch place) =
    1 + option_map_or (sum_by (most_pattern_cost width)) (slice_get raw.sets place) 0
most_cost raw width (OneOf _ place) = 1 + option_map_or length (slice_get raw.lists place) 0
most_cost raw width _ = 1

-- the costs of all instructions together, each counted once, whether a run meets it or not
unfoldable pub budget_of : Raw → ℕ → ℕ
budget_of raw name_len = sum_by (most_cost raw (width_of raw name_len)) raw.code
