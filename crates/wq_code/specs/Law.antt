-- Laws about the reading of program files and their spelling. This server's own format.
use Rattle.std.specs.Prelude.{◌≡◌, ◌≢◌, ◌↔◌, ◌⊎◌, ◌≤◌, ℕ, List, [], ◌++◌, length, Ok, Err, IsTrue}
use Rattle.wq_code.specs.File.{file_at}
use Rattle.wq_code.specs.Fits.{raw_fits_in}
use Rattle.wq_code.specs.Item.{Item}
use Rattle.wq_code.specs.Machine.{after}
use Rattle.wq_code.specs.FirstMachine.{first_after}
use Rattle.wq_code.specs.First.{FirstRaw, migrate, first_file_at, first_head}
use Rattle.wq_code.specs.Spelling.{AreBytes, FitsFields, spelling_in, IsSpellingIn, IsSpelling}
use Rattle.wq_code.specs.declared.version.Version.{Version}
use Rattle.wq_code.specs.declared.fault.FileFault.{FileFault}
use Rattle.wq_code.specs.declared.fault.FileFault.TheVariants.{BytesAfterEnd, CutShort, OtherVersion}
use Rattle.wq_code.specs.declared.raw.Raw.{Raw}

-- bytes are read as a program exactly if they are its spelling
abbrev pub FilesAreSpellings : Type 0
FilesAreSpellings = (bytes : List ℕ) (raw : Raw) → AreBytes bytes
    → (file_at bytes ≡ Ok raw) ↔ IsSpelling raw bytes

-- a spelling is read back as its program
abbrev pub SpellingsAreReadBack : Type 0
SpellingsAreReadBack = (bytes : List ℕ) (raw : Raw) → IsSpelling raw bytes → file_at bytes ≡ Ok raw

-- a program has one spelling in each version that can hold it
abbrev pub OneSpelling : Type 0
OneSpelling = (version : Version) (raw : Raw) → IsTrue (raw_fits_in version raw) → FitsFields raw
    → IsSpellingIn version raw (spelling_in version raw)
    × ((bytes : List ℕ) → IsSpellingIn version raw bytes → bytes ≡ spelling_in version raw)

-- no spelling of any program begins another
abbrev pub NoneBeginsAnother : Type 0
NoneBeginsAnother = (raw other : Raw) (bytes more : List ℕ) → IsSpelling raw bytes
    → IsSpelling other (bytes ++ more) → (more ≡ []) × (raw ≡ other)

-- a fault stays whatever bytes follow, unless the bytes were cut short
abbrev pub FaultsStay : Type 0
FaultsStay = (bytes more : List ℕ) (fault : FileFault) → fault ≢ CutShort
    → file_at bytes ≡ Err fault → file_at (bytes ++ more) ≡ Err fault

-- each front of a spelling that is not all of it is cut short
abbrev pub FrontsAreCutShort : Type 0
FrontsAreCutShort = (raw : Raw) (front more : List ℕ) → more ≢ [] → IsSpelling raw (front ++ more)
    → file_at front ≡ Err CutShort

-- some bytes are a front of the spelling of a program, and not all of it
abbrev pub BeginASpelling : List ℕ → Type 0
BeginASpelling bytes = (raw : Raw) × (more : List ℕ) × (more ≢ []) × IsSpelling raw (bytes ++ more)

-- some bytes end within a number of which at most three bytes are left, and that is wrong however
-- it ends. Any so many bytes after them give the same fault, which the bytes alone do not give
abbrev pub EndInAWrongNumber : List ℕ → Type 0
EndInAWrongNumber bytes =
    (left : ℕ) × (left ≤ 3) × (fault : FileFault) × (fault ≢ BytesAfterEnd)
    × (file_at bytes ≢ Err fault)
    × ((more : List ℕ) → length more ≡ left → AreBytes more → file_at (bytes ++ more) ≡ Err fault)

-- bytes are cut short in two cases alone: they are a front of a spelling and not all of it, or end
-- within a number that is wrong whatever follows
abbrev pub CutShortAreFronts : Type 0
CutShortAreFronts = (bytes : List ℕ) → AreBytes bytes
    → (file_at bytes ≡ Err CutShort) ↔ (BeginASpelling bytes ⊎ EndInAWrongNumber bytes)

-- bytes follow the end exactly if a front of them is a spelling, and not all of them
abbrev pub EndsAreSpellings : Type 0
EndsAreSpellings = (bytes : List ℕ) → AreBytes bytes
    → (file_at bytes ≡ Err BytesAfterEnd)
    ↔ ((raw : Raw) × (front : List ℕ) × (more : List ℕ) × (more ≢ []) × IsSpelling raw front
    × (bytes ≡ front ++ more))

-- bytes with another fault begin no spelling
abbrev pub FaultyBeginNone : Type 0
FaultyBeginNone = (bytes more : List ℕ) (fault : FileFault) (raw : Raw) → fault ≢ CutShort
    → file_at bytes ≡ Err fault → IsSpelling raw (bytes ++ more) → ⊥

-- a file that was read while there was one version is read as the same program
abbrev pub FirstFilesStay : Type 0
FirstFilesStay = (bytes : List ℕ) (raw : FirstRaw) → first_file_at bytes ≡ Ok raw
    → file_at bytes ≡ Ok (migrate raw)

-- each fault of a file of that time but another version is its fault today
abbrev pub FirstFaultsStay : Type 0
FirstFaultsStay = (bytes : List ℕ) (fault : FileFault) → fault ≢ OtherVersion
    → first_file_at bytes ≡ Err fault → file_at bytes ≡ Err fault

-- a file that begins as each file of that time, and is read today, was read as the same program
abbrev pub FirstFilesWere : Type 0
FirstFilesWere = (rest : List ℕ) (raw : Raw) → file_at (first_head ++ rest) ≡ Ok raw
    → (old : FirstRaw) × (first_file_at (first_head ++ rest) ≡ Ok old) × (migrate old ≡ raw)

-- a run of a program of that time has the same outcome today, after each number of steps
abbrev pub FirstRunsStay : Type 0
FirstRunsStay = (raw : FirstRaw) (item : Item) (k : ℕ)
    → after (migrate raw) item k ≡ first_after raw item k
