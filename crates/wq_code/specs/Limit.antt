-- The limits of program files, which are this server's own.
-- That of a pattern's text is wq_glob's `max_pattern_length`.
use Rattle.std.specs.Prelude.{ℕ}
use Rattle.wq_code.specs.declared.version.Version.{Version}
use Rattle.wq_code.specs.declared.version.Version.TheVariants.{First, Second}

-- the most rows of a table in a file of this version: numbers, texts, lists, patterns and
-- instructions
abbrev pub max_rows_in : Version → ℕ
max_rows_in First = 4096
max_rows_in Second = 65536

-- the most sets of a file of this version
abbrev pub max_sets_in : Version → ℕ
max_sets_in First = 0
max_sets_in Second = 65536

-- the most bytes of a text, of an entry of a list too
abbrev pub max_constant_text : ℕ
max_constant_text = 4096

-- the most entries of a list; in the first version as many as two bytes can count
abbrev pub max_entries_in : Version → ℕ
max_entries_in First = 65535
max_entries_in Second = 65536

-- the number of values that a count and a place can have in a file of this version
abbrev pub room_in : Version → ℕ
room_in First = 65536
room_in Second = 4294967296

-- the most rows of a table of a program
abbrev pub max_table_rows : ℕ
max_table_rows = max_rows_in Second

-- the most entries of a list of a program, and the most patterns of a set
abbrev pub max_entries : ℕ
max_entries = max_entries_in Second
