-- The meaning of a line of a script. A line has words between single spaces, and the last word may
-- have spaces.
-- The letters of kinds are those of Watchman's field `type`; the rest is this server's own.
use Rattle.std.specs.Prelude.{ℕ, ℤ, pos, Bool, true, false, ◌&&◌, ◌==◌, int_le, List, [], ◌∷◌, codes, bytes_eq, if◌then◌else◌, Option, Some, None, option_map, option_and_then}
use Rattle.std.specs.Str.{byte}
use Rattle.wq_base.specs.Decimal.{signed_of}
use Rattle.wq_record.specs.Kind.{kind_with}
use Rattle.wq_record.specs.Seen.{SeenData}
use Rattle.wq_record.specs.declared.kind.Kind.{Kind}

-- a line by its word
pub data LineData : Type 0 where
  -- a listing begins, seen at this second. The root is crawled with it
  pass : ℤ → LineData
  -- a listing begins of the files at this second, which no crawl has seen yet
  tree : ℤ → LineData
  -- a row of the listing
  row : SeenData → LineData
  -- the listing ends
  end : LineData
  -- a client sends a line
  ask : ℤ → List ℕ → LineData
  -- a client leaves
  leave : ℤ → LineData
  -- nothing else happens for a while, and a client hears of changes
  idle : ℤ → LineData
  -- a round of the triggers of the root, in which each start succeeds, or each fails
  fire : (succeeds : Bool) → LineData
  -- the command of the trigger of this name has ended
  done : (name : List ℕ) → LineData

-- the byte between words
abbrev pub is_space : ℕ → Bool
is_space b = b == byte " "

-- a byte before a word
abbrev pub before_word : ℕ → List ℕ × List ℕ → List ℕ × List ℕ
before_word b (word, rest) = (b ∷ word, rest)

-- the word before the first space, and the bytes after that space
abbrev pub first_word : List ℕ → Option (List ℕ × List ℕ)
first_word [] = None
first_word (b ∷ bs) =
    if is_space b then Some ([], bs) else option_map (before_word b) (first_word bs)

-- a word that is a number, and the bytes after it
abbrev pub number_before : List ℕ × List ℕ → Option (ℤ × List ℕ)
number_before (word, rest) = option_map (λ number. (number, rest)) (signed_of word)

-- a number, and the bytes after the space that follows it
abbrev pub number_then : List ℕ → Option (ℤ × List ℕ)
number_then text = option_and_then number_before (first_word text)

-- the kind that a word names by its letter
abbrev pub kind_of_word : List ℕ → Option Kind
kind_of_word (letter ∷ []) = kind_with letter
kind_of_word _ = None

-- the row of a kind and a size, from its modification time and its name
abbrev pub row_from : Kind → ℤ → ℤ × List ℕ → LineData
row_from kind size (mtime_ms, name) =
    row (record { name = name; kind = kind; size = size; mtime_ms = mtime_ms })

-- the row of a kind, from its size and the bytes after it
abbrev pub row_sized : Kind → ℤ × List ℕ → Option LineData
row_sized kind (size, rest) = option_map (row_from kind size) (number_then rest)

-- a row of a kind: its size, its modification time and its name
abbrev pub row_of : Kind → List ℕ → Option LineData
row_of kind text = option_and_then (row_sized kind) (number_then text)

-- whether a number is one of a client: 1 to 32
abbrev pub is_client : ℤ → Bool
is_client client = int_le (pos 1) client && int_le client (pos 32)

-- a client's line
abbrev pub ask_from : ℤ × List ℕ → Option LineData
ask_from (client, line) = if is_client client then Some (ask client line) else None

-- a client's line, from its text
abbrev pub ask_of : List ℕ → Option LineData
ask_of text = option_and_then ask_from (number_then text)

-- the line that a client leaves
abbrev pub leave_from : ℤ → Option LineData
leave_from client = if is_client client then Some (leave client) else None

-- the line that nothing else happens for a while
abbrev pub idle_from : ℤ → Option LineData
idle_from client = if is_client client then Some (idle client) else None

-- a round in which each start succeeds, or each fails
abbrev pub fire_of : List ℕ → Option LineData
fire_of word =
    if bytes_eq word (codes "ok") then Some (fire true)
    else if bytes_eq word (codes "fail") then Some (fire false)
    else None

-- a line, by its first word and the bytes after it
abbrev pub line_worded : List ℕ × List ℕ → Option LineData
line_worded (word, rest) =
    if bytes_eq word (codes "pass") then option_map pass (signed_of rest)
    else if bytes_eq word (codes "tree") then option_map tree (signed_of rest)
    else if bytes_eq word (codes "ask") then ask_of rest
    else if bytes_eq word (codes "leave") then option_and_then leave_from (signed_of rest)
    else if bytes_eq word (codes "idle") then option_and_then idle_from (signed_of rest)
    else if bytes_eq word (codes "fire") then fire_of rest
    else if bytes_eq word (codes "done") then Some (done rest)
    else option_and_then (λ kind. row_of kind rest) (kind_of_word word)

-- the meaning of a line, unless it is malformed
abbrev pub line_of : List ℕ → Option LineData
line_of text =
    if bytes_eq text (codes "end") then Some end
    else option_and_then line_worded (first_word text)
