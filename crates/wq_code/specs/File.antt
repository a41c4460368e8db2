-- The program file, in both versions, field by field: the program in its bytes, or their first
-- fault. This server's own format.
use Rattle.std.specs.Prelude.{ℕ, ◌==◌, List, [], ◌∷◌, codes, find, Result, Ok}
use Rattle.wq_code.specs.Limit.{max_rows_in}
use Rattle.wq_code.specs.Reading.{◌>>=◌, Reader, or_file_fault, byte_at, exact_at, end_at, wide_at, count_at, many_at, number_at, text_at, list_at, pattern_at, set_at, op_at}
use Rattle.wq_code.specs.declared.fault.FileFault.{FileFault}
use Rattle.wq_code.specs.declared.fault.FileFault.TheVariants.{WrongMagic, OtherVersion}
use Rattle.wq_code.specs.declared.file.Counts.{Counts}
use Rattle.wq_code.specs.declared.raw.Raw.{Raw}
use Rattle.wq_code.specs.declared.version.Version.{Version}
use Rattle.wq_code.specs.declared.version.Version.TheVariants.{First, Second}

-- the byte of a version
abbrev pub version_code : Version → ℕ
version_code First = 1
version_code Second = 2

-- the magic and the version
unfoldable pub head_at : Reader Version
head_at bytes = do
  bytes ← exact_at WrongMagic (codes "WQPF") bytes
  (code, bytes) ← byte_at bytes
  version ← or_file_fault (find (λ v. version_code v == code) (First ∷ Second ∷ [])) OtherVersion
  Ok (version, bytes)

-- the count of the rows of a table
abbrev pub rows_at : Version → Reader ℕ
rows_at version = count_at (wide_at version) (max_rows_in version)

-- the count of the sets, which the first version does not have
abbrev pub sets_count_at : Version → Reader ℕ
sets_count_at First = λ bytes. Ok (0, bytes)
sets_count_at Second = rows_at Second

-- the counts of the tables' rows
unfoldable pub counts_at : Version → Reader Counts
counts_at version bytes = do
  (nums, bytes) ← rows_at version bytes
  (texts, bytes) ← rows_at version bytes
  (lists, bytes) ← rows_at version bytes
  (patterns, bytes) ← rows_at version bytes
  (sets, bytes) ← sets_count_at version bytes
  (code, bytes) ← rows_at version bytes
  Ok (
    record {
      nums = nums;
      texts = texts;
      lists = lists;
      patterns = patterns;
      sets = sets;
      code = code;
    },
    bytes,
  )

-- the tables, with so many rows
unfoldable pub tables_at : Version → Counts → Reader Raw
tables_at version counts bytes = do
  (nums, bytes) ← many_at number_at counts.nums bytes
  (texts, bytes) ← many_at text_at counts.texts bytes
  (lists, bytes) ← many_at (list_at version) counts.lists bytes
  (patterns, bytes) ← many_at pattern_at counts.patterns bytes
  (sets, bytes) ← many_at set_at counts.sets bytes
  (code, bytes) ← many_at (op_at version) counts.code bytes
  Ok (
    record {
      nums = nums;
      texts = texts;
      lists = lists;
      patterns = patterns;
      sets = sets;
      code = code;
    },
    bytes,
  )

-- a program, which bytes may follow
unfoldable pub raw_at : Reader Raw
raw_at bytes = do
  (version, bytes) ← head_at bytes
  (counts, bytes) ← counts_at version bytes
  tables_at version counts bytes

-- a file: a program, and nothing more
unfoldable pub file_at : List ℕ → Result Raw FileFault
file_at bytes = do
  (raw, bytes) ← raw_at bytes
  _ ← end_at bytes
  Ok raw
