-- Program files as they were while there was one version of them, field by field, and the programs
-- of today that those were. No code runs these definitions: laws compare today's with them, so they
-- are never changed. This server's own format.
use Rattle.std.specs.Prelude.{ℕ, ℤ, List, [], ◌∷◌, ◌++◌, codes, ◌==◌, nat_le, if◌then◌else◌, find, Result, Ok, Err}
use Rattle.wq_glob.specs.Pattern.{PatternData}
use Rattle.wq_code.specs.Word.{code_of, first_ops, with_a, with_b}
use Rattle.wq_code.specs.Reading.{◌>>=◌, Reader, or_file_fault, byte_at, exact_at, end_at, short_at, many_at, number_at, text_at, pattern_at}
use Rattle.wq_code.specs.declared.fault.FileFault.{FileFault}
use Rattle.wq_code.specs.declared.fault.FileFault.TheVariants.{WrongMagic, OtherVersion, UnknownOperation, BadOperand, OverLimit}
use Rattle.wq_code.specs.declared.operation.Op.{Op}
use Rattle.wq_code.specs.declared.raw.Raw.{Raw}

-- the tables of a program of that time
pub record FirstRaw : Type 0 where
  pub nums : List ℤ
  pub texts : List (List ℕ)
  pub lists : List (List (List ℕ))
  pub patterns : List PatternData
  pub code : List Op

-- such a program today: the same tables, no sets, the same instructions
abbrev pub migrate : FirstRaw → Raw
migrate raw = record {
  nums = raw.nums;
  texts = raw.texts;
  lists = raw.lists;
  patterns = raw.patterns;
  sets = [];
  code = raw.code;
}

-- the count of the rows of a table: a number of two bytes, at most 4,096
unfoldable pub first_count_at : Reader ℕ
first_count_at bytes = do
  (n, bytes) ← short_at bytes
  if nat_le n 4096 then Ok (n, bytes) else Err OverLimit

-- a list: how many texts it has, and these
unfoldable pub first_list_at : Reader (List (List ℕ))
first_list_at bytes = do
  (n, bytes) ← short_at bytes
  many_at text_at n bytes

-- an instruction: its operation, then `a`, then `b`
unfoldable pub first_op_at : Reader Op
first_op_at bytes = do
  (code, bytes) ← byte_at bytes
  op ← or_file_fault (find (λ op. code_of op == code) first_ops) UnknownOperation
  (a, bytes) ← byte_at bytes
  op ← or_file_fault (with_a op a) BadOperand
  (b, bytes) ← short_at bytes
  op ← or_file_fault (with_b op b) BadOperand
  Ok (op, bytes)

-- the front of each file
abbrev pub first_head : List ℕ
first_head = codes "WQPF" ++ 1 ∷ []

-- a file, and nothing more
unfoldable pub first_file_at : List ℕ → Result FirstRaw FileFault
first_file_at bytes = do
  bytes ← exact_at WrongMagic (codes "WQPF") bytes
  bytes ← exact_at OtherVersion (1 ∷ []) bytes
  (nums, bytes) ← first_count_at bytes
  (texts, bytes) ← first_count_at bytes
  (lists, bytes) ← first_count_at bytes
  (patterns, bytes) ← first_count_at bytes
  (code, bytes) ← first_count_at bytes
  (nums, bytes) ← many_at number_at nums bytes
  (texts, bytes) ← many_at text_at texts bytes
  (lists, bytes) ← many_at first_list_at lists bytes
  (patterns, bytes) ← many_at pattern_at patterns bytes
  (code, bytes) ← many_at first_op_at code bytes
  _ ← end_at bytes
  Ok (record { nums = nums; texts = texts; lists = lists; patterns = patterns; code = code })
