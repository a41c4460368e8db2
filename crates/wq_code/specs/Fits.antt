-- The limits that a program must keep to have a file. This server's own; `Limit` has the numbers.
use Rattle.std.specs.Prelude.{ℕ, Bool, true, false, ◌&&◌, nat_le, nat_lt, List, length}
use Rattle.std.specs.List.{list_all}
use Rattle.wq_glob.specs.Pattern.{PatternData}
use Rattle.wq_glob.specs.Limit.{max_pattern_length}
use Rattle.wq_code.specs.Limit.{max_rows_in, max_constant_text, max_sets_in, max_entries_in, max_entries, room_in}
use Rattle.wq_code.specs.Word.{b_of}
use Rattle.wq_code.specs.declared.operation.Op.{Op}
use Rattle.wq_code.specs.declared.operation.Op.TheVariants.{AnyMatch}
use Rattle.wq_code.specs.declared.version.Version.{Version}
use Rattle.wq_code.specs.declared.version.Version.TheVariants.{First, Second}
use Rattle.wq_code.specs.declared.raw.Raw.{Raw}

-- a table has not too many rows for a file of this version
abbrev pub is_table : {A : Type 0} → Version → List A → Bool
is_table version rows = nat_le (length rows) (max_rows_in version)

-- a row that has no limits of its own: a number or an instruction
abbrev pub is_any : {A : Type 0} → A → Bool
is_any row = true

-- a text is not too long
abbrev pub is_short_text : List ℕ → Bool
is_short_text text = nat_le (length text) max_constant_text

-- a list has not too many entries, and none is too long
abbrev pub is_list : Version → List (List ℕ) → Bool
is_list version entries =
    nat_le (length entries) (max_entries_in version) && list_all is_short_text entries

-- a pattern's text is not too long
abbrev pub is_pattern : PatternData → Bool
is_pattern pattern = nat_le (length pattern.text) max_pattern_length

-- a set has not too many patterns, and none is too long
abbrev pub is_pattern_set : List PatternData → Bool
is_pattern_set patterns = nat_le (length patterns) max_entries && list_all is_pattern patterns

-- a file of this version can hold the instruction
abbrev pub is_op : Version → Op → Bool
is_op First (AnyMatch _) = false
is_op First op = nat_lt (b_of op) (room_in First)
is_op Second op = true

-- a file of this version can hold the program: each of the six tables, and each row of them
unfoldable pub raw_fits_in : Version → Raw → Bool
raw_fits_in version raw =
    is_table version raw.nums && (is_table version raw.texts && list_all is_short_text raw.texts)
    && (is_table version raw.lists && list_all (is_list version) raw.lists)
    && (is_table version raw.patterns && list_all is_pattern raw.patterns)
    && (nat_le (length raw.sets) (max_sets_in version) && list_all is_pattern_set raw.sets)
    && (is_table version raw.code && list_all (is_op version) raw.code)

-- a program keeps to the limits: a file of the second version can hold it
abbrev pub raw_fits : Raw → Bool
raw_fits raw = raw_fits_in Second raw
