-- How the fields of a program file are read: a value at the front of bytes and the bytes after it,
-- or the first fault. This server's own format; numbers are big-endian.
use Rattle.std.specs.Prelude.{◌≡◌, ℕ, zero, suc, ℤ, bit_and, not, ◌==◌, nat_lt, nat_le, if◌then◌else◌, List, [], ◌∷◌, length, take, drop, Option, Some, None, Result, Ok, Err}
use Rattle.std.specs.Int.{w16, w32, w64, from_be_bytes, cast_signed}
use Rattle.wq_glob.specs.Pattern.{PatternData}
use Rattle.wq_glob.specs.declared.flag.Flags.{Flags}
use Rattle.wq_code.specs.Limit.{max_constant_text, max_entries}
use Rattle.wq_code.specs.Word.{op_of_code, with_a, with_b}
use Rattle.wq_code.specs.declared.fault.FileFault.{FileFault}
use Rattle.wq_code.specs.declared.fault.FileFault.TheVariants.{CutShort, BytesAfterEnd, UnknownOperation, BadOperand, OverLimit, NoMemory}
use Rattle.wq_code.specs.declared.operation.Op.{Op}
use Rattle.wq_code.specs.declared.version.Version.{Version}
use Rattle.wq_code.specs.declared.version.Version.TheVariants.{First, Second}

-- a field that was read, and then the next
infixl 10 ◌>>=◌
abbrev pub ◌>>=◌ : {A B : Type 0}
    → Result A FileFault → (A → Result B FileFault) → Result B FileFault
(Ok x) >>= next = next x
(Err fault) >>= next = Err fault

-- reading a field: its value and the bytes after it
abbrev pub Reader : Type 0 → Type 0
Reader A = List ℕ → Result (A × List ℕ) FileFault

-- a value that is there, or else this fault
abbrev pub or_file_fault : {A : Type 0} → Option A → FileFault → Result A FileFault
or_file_fault (Some x) fault = Ok x
or_file_fault None fault = Err fault

-- so many bytes
unfoldable pub bytes_at : ℕ → Reader (List ℕ)
bytes_at n bytes = if nat_lt (length bytes) n then Err CutShort else Ok (take n bytes, drop n bytes)

-- one byte
abbrev pub byte_at : Reader ℕ
byte_at [] = Err CutShort
byte_at (b ∷ bytes) = Ok (b, bytes)

-- exactly these bytes, each looked at by itself
abbrev pub exact_at : FileFault → List ℕ → List ℕ → Result (List ℕ) FileFault
exact_at fault [] bytes = Ok bytes
exact_at fault (x ∷ xs) [] = Err CutShort
exact_at fault (x ∷ xs) (b ∷ bytes) = if b == x then exact_at fault xs bytes else Err fault

-- nothing more
abbrev pub end_at : List ℕ → Result (List ℕ) FileFault
end_at [] = Ok []
end_at (b ∷ bytes) = Err BytesAfterEnd

-- so many fields of one form
unfoldable pub many_at : {A : Type 0} → Reader A → ℕ → Reader (List A)
many_at field zero bytes = Ok ([], bytes)
many_at field (suc n) bytes = do
  (first, bytes) ← field bytes
  (others, bytes) ← many_at field n bytes
  Ok (first ∷ others, bytes)

-- a number of two bytes
unfoldable pub short_at : Reader ℕ
short_at bytes = do
  (digits, bytes) ← bytes_at 2 bytes
  Ok (from_be_bytes w16 digits, bytes)

-- a number of four bytes
unfoldable pub long_at : Reader ℕ
long_at bytes = do
  (digits, bytes) ← bytes_at 4 bytes
  Ok (from_be_bytes w32 digits, bytes)

-- a number as wide as the counts and places of a version
abbrev pub wide_at : Version → Reader ℕ
wide_at First = short_at
wide_at Second = long_at

-- a count or a length, with its limit
unfoldable pub count_at : Reader ℕ → ℕ → Reader ℕ
count_at number limit bytes = do
  (n, bytes) ← number bytes
  if nat_le n limit then Ok (n, bytes) else Err OverLimit

-- a number of eight bytes, in two's complement
unfoldable pub number_at : Reader ℤ
number_at bytes = do
  (digits, bytes) ← bytes_at 8 bytes
  Ok (cast_signed w64 (from_be_bytes w64 digits), bytes)

-- a text: its length and its bytes
unfoldable pub text_at : Reader (List ℕ)
text_at bytes = do
  (n, bytes) ← count_at short_at max_constant_text bytes
  bytes_at n bytes

-- the count of the entries of a list; in the first version any number of two bytes is one
abbrev pub entries_at : Version → Reader ℕ
entries_at First = short_at
entries_at Second = count_at long_at max_entries

-- a list: how many texts it has, and these
unfoldable pub list_at : Version → Reader (List (List ℕ))
list_at version bytes = do
  (n, bytes) ← entries_at version bytes
  many_at text_at n bytes

-- the flags that a byte holds, by its lowest four bits
abbrev pub flags_in : ℕ → Flags
flags_in bits = record {
  wholename = not (bit_and bits 1 == 0);
  dotfiles = not (bit_and bits 2 == 0);
  noescape = not (bit_and bits 4 == 0);
  fold = not (bit_and bits 8 == 0);
}

-- a pattern: its flags, its length and its bytes
unfoldable pub pattern_at : Reader PatternData
pattern_at bytes = do
  (bits, bytes) ← byte_at bytes
  flags ← if nat_lt bits 16 then Ok (flags_in bits) else Err BadOperand
  (n, bytes) ← byte_at bytes
  (text, bytes) ← bytes_at n bytes
  Ok (record { text = text; flags = flags }, bytes)

-- a set: the count of its patterns, and these
unfoldable pub set_at : Reader (List PatternData)
set_at bytes = do
  (n, bytes) ← count_at long_at max_entries bytes
  many_at pattern_at n bytes

-- an instruction: its operation, then `a`, then `b`
unfoldable pub op_at : Version → Reader Op
op_at version bytes = do
  (code, bytes) ← byte_at bytes
  op ← or_file_fault (op_of_code version code) UnknownOperation
  (a, bytes) ← byte_at bytes
  op ← or_file_fault (with_a op a) BadOperand
  (b, bytes) ← wide_at version bytes
  op ← or_file_fault (with_b op b) BadOperand
  Ok (op, bytes)

-- a fault of the code is that of the reading, but if a growth was refused
abbrev pub Fails : {Y : Type 0} → FileFault → Result Y FileFault → Type 0
Fails NoMemory read = Unit {0}
Fails fault read = read ≡ Err fault

-- the answer of the code, seen by `view`, is the result of the reading, unless a growth was refused
abbrev pub Gives : {X Y : Type 0} → (X → Y) → Result X FileFault → Result Y FileFault → Type 0
Gives view (Ok x) read = read ≡ Ok (view x)
Gives view (Err fault) read = Fails fault read
