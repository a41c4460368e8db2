-- The bytes of a program file: a program has one spelling in each version that can hold it.
-- This server's own format; numbers are big-endian.
use Rattle.std.specs.Prelude.{◌≡◌, ℕ, ◌<◌, ◌+◌, ◌*◌, ℤ, IsTrue, FitsSigned, List, [], ◌∷◌, ◌++◌, length, codes, All}
use Rattle.std.specs.Int.{w16, w32, w64, to_be_bytes, cast_unsigned}
use Rattle.std.specs.List.{flat_map}
use Rattle.wq_glob.specs.Pattern.{PatternData}
use Rattle.wq_glob.specs.declared.flag.Flags.{Flags}
use Rattle.wq_code.specs.Fits.{raw_fits_in}
use Rattle.wq_code.specs.Limit.{room_in}
use Rattle.wq_code.specs.File.{version_code}
use Rattle.wq_code.specs.declared.version.Version.{Version}
use Rattle.wq_code.specs.declared.version.Version.TheVariants.{First, Second}
use Rattle.wq_code.specs.Word.{code_of, flag_code, a_of, b_of}
use Rattle.wq_code.specs.declared.operation.Op.{Op}
use Rattle.wq_code.specs.declared.raw.Raw.{Raw}

-- a number of two bytes
abbrev pub short : ℕ → List ℕ
short n = to_be_bytes w16 n

-- a number of four bytes
abbrev pub long : ℕ → List ℕ
long n = to_be_bytes w32 n

-- a number as wide as the counts and places of a version
abbrev pub wide : Version → ℕ → List ℕ
wide First n = short n
wide Second n = long n

-- a number of eight bytes, in two's complement
abbrev pub number : ℤ → List ℕ
number n = to_be_bytes w64 (cast_unsigned w64 n)

-- a text: its length and its bytes
abbrev pub text : List ℕ → List ℕ
text bytes = short (length bytes) ++ bytes

-- a list: how many texts it has, and these
abbrev pub entries : Version → List (List ℕ) → List ℕ
entries version texts = wide version (length texts) ++ flat_map text texts

-- the flags of a pattern as bits of a byte, from the lowest on
abbrev pub flags_byte : Flags → ℕ
flags_byte f =
    flag_code f.wholename + 2 * flag_code f.dotfiles
    + 4 * flag_code f.noescape + 8 * flag_code f.fold

-- a pattern: its flags, its length and its bytes
abbrev pub pattern : PatternData → List ℕ
pattern p = flags_byte p.flags ∷ length p.text ∷ p.text

-- a set: how many patterns it has, and these
abbrev pub set : List PatternData → List ℕ
set patterns = long (length patterns) ++ flat_map pattern patterns

-- an instruction: its operation, `a` and `b`
abbrev pub instruction : Version → Op → List ℕ
instruction version op = code_of op ∷ a_of op ∷ wide version (b_of op)

-- the count of the sets, which the first version does not have
abbrev pub sets_count : Version → ℕ → List ℕ
sets_count First n = []
sets_count Second n = long n

-- a file of a version: `WQPF`, the version, the counts, and the tables in their order
unfoldable pub spelling_in : Version → Raw → List ℕ
spelling_in version raw =
    codes "WQPF" ++ (version_code version ∷ []
    ++ (wide version (length raw.nums) ++ (wide version (length raw.texts)
    ++ (wide version (length raw.lists) ++ (wide version (length raw.patterns)
    ++ (sets_count version (length raw.sets) ++ (wide version (length raw.code)
    ++ (flat_map number raw.nums ++ (flat_map text raw.texts
    ++ (flat_map (entries version) raw.lists ++ (flat_map pattern raw.patterns
    ++ (flat_map set raw.sets ++ flat_map (instruction version) raw.code))))))))))))

-- the file of a program as it is written today
abbrev pub spelling : Raw → List ℕ
spelling raw = spelling_in Second raw

-- a list of bytes
abbrev pub AreBytes : List ℕ → Type 0
AreBytes bytes = All (λ b. b < 256) bytes

-- a number has room in its field
abbrev pub HasRoomNumber : ℤ → Type 0
HasRoomNumber n = FitsSigned w64 n

-- the bytes of a pattern's text have room in their fields
abbrev pub HasRoomPattern : PatternData → Type 0
HasRoomPattern p = AreBytes p.text

-- the number of an instruction has room in its field
abbrev pub HasRoomOp : Op → Type 0
HasRoomOp op = b_of op < room_in Second

-- each number, byte and operand has room in its field, as in every `Raw` in memory
pub record FitsFields (raw : Raw) : Type 0 where
  pub nums : All HasRoomNumber raw.nums
  pub texts : All AreBytes raw.texts
  pub lists : All (All AreBytes) raw.lists
  pub patterns : All HasRoomPattern raw.patterns
  pub sets : All (All HasRoomPattern) raw.sets
  pub code : All HasRoomOp raw.code

-- the bytes are the file of this program in a version that can hold it
pub record IsSpellingIn (version : Version) (raw : Raw) (bytes : List ℕ) : Type 0 where
  pub within_limits : IsTrue (raw_fits_in version raw)
  pub in_range : FitsFields raw
  pub written : bytes ≡ spelling_in version raw

-- the bytes are the file of this program in some version
abbrev pub IsSpelling : Raw → List ℕ → Type 0
IsSpelling raw bytes = (version : Version) × IsSpellingIn version raw bytes
