-- The records with a suffix, and the numbers that a chunk gives to the suffixes of its records. The
-- numbers are this server's own.
use Rattle.std.specs.Prelude.{◌≡◌, ◌≤◌, ◌<◌, ◌&&◌, ◌==◌, ◌⊎◌, ◌++◌, ℕ, Bool, not, bytes_eq, List, [], ◌∷◌, length, get_or, map, false, true, slice_get, Some}
use Rattle.std.specs.List.{list_any}
use Rattle.std.specs.Str.{str_to_ascii_lowercase}
use Rattle.wq_base.specs.Compare.{is_suffix}
use Rattle.wq_base.specs.Name.{suffix_of}
use Rattle.wq_view.specs.declared.suffix.First.{First}
use Rattle.wq_record.specs.RecordData.{RecordData}

-- whether the suffix of the record's name is this text, if A to Z count as a to z; no record has an
-- empty suffix
abbrev pub has_suffix : List ℕ → RecordData → Bool
has_suffix text r = is_suffix text (suffix_of r.name)

-- whether a suffix is one of these texts, if A to Z count as a to z; an empty one is not
abbrev pub is_one_of : List (List ℕ) → List ℕ → Bool
is_one_of texts suffix = list_any (λ text. is_suffix text suffix) texts

-- whether the suffix of the record's name is one of these texts
abbrev pub has_suffix_of : List (List ℕ) → RecordData → Bool
has_suffix_of texts r = is_one_of texts (suffix_of r.name)

-- the suffix of a record's name with a to z for A to Z
abbrev pub folded_suffix : RecordData → List ℕ
folded_suffix r = str_to_ascii_lowercase (suffix_of r.name)

-- the suffixes of records with a to z for A to Z
abbrev pub folded_suffixes : List RecordData → List (List ℕ)
folded_suffixes = map folded_suffix

-- whether a suffix with a to z for A to Z is one of these texts
abbrev pub is_folded_of : List (List ℕ) → List ℕ → Bool
is_folded_of texts suffix =
    list_any (λ text. not (length text == 0) && bytes_eq (str_to_ascii_lowercase text) suffix) texts

-- the most suffixes of a chunk that have a number
abbrev pub max_numbered : ℕ
max_numbered = 255

-- the places of the first records of suffixes
abbrev pub first_places : List First → List ℕ
first_places = map (λ first. first.at)

-- places of so many records, for at most as many suffixes as have a number
pub record ArePlaces (count : ℕ) (places : List ℕ) : Type 0 where
  pub few : length places ≤ max_numbered
  pub inside : (k : ℕ) → k < length places → get_or places k 0 < count

-- the suffix of a number: that of the record at its place
abbrev pub suffix_at : List (List ℕ) → List ℕ → ℕ → List ℕ
suffix_at suffixes places number = get_or suffixes (get_or places number 0) []

-- a number of this suffix: that of its place, or the last number, if all others are taken
abbrev pub IsNumber : List (List ℕ) → List ℕ → ℕ → List ℕ → Type 0
IsNumber suffixes places number suffix =
    ((number < length places) × (suffix_at suffixes places number ≡ suffix))
    ⊎ ((length places ≡ max_numbered) × (number ≡ max_numbered))

-- the number for the suffix at a place; a new suffix gets a place of its own
pub record IsNumberFor (suffixes : List (List ℕ)) (at : ℕ) (old new : List ℕ) (number : ℕ)
    : Type 0 where
  pub grown : (new ≡ old) ⊎ (new ≡ old ++ at ∷ [])
  pub fits : ArePlaces (length suffixes) new
  pub right : IsNumber suffixes new number (get_or suffixes at [])

-- numbers of suffixes, one for each
pub record IsNumbered (suffixes : List (List ℕ)) (places numbers : List ℕ) : Type 0 where
  pub fits : ArePlaces (length suffixes) places
  pub each : length numbers ≡ length suffixes
  pub right : (i : ℕ) → i < length suffixes
      → IsNumber suffixes places (get_or numbers i 0) (get_or suffixes i [])

-- a flag of a number says whether the suffix of a record is one of these texts; that of the last
-- number says nothing, and is set
abbrev pub IsFlagged : List (List ℕ) → List Bool → ℕ → RecordData → Type 0
IsFlagged texts flags number r =
    (get_or flags number false ≡ has_suffix_of texts r)
    ⊎ ((number ≡ max_numbered) × (get_or flags number false ≡ true))

-- the flags of the numbers of records
pub record AreFlagged (texts : List (List ℕ)) (flags : List Bool) (numbers : List ℕ)
    (records : List RecordData) : Type 0 where
  pub each : length numbers ≡ length records
  pub right : (i : ℕ) (r : RecordData) → slice_get records i ≡ Some r
      → IsFlagged texts flags (get_or numbers i 0) r

-- the flags of numbers: whether the suffix at the place of each is one of these texts; the last one
-- is set
pub record AreNumberFlags (texts suffixes : List (List ℕ)) (places : List ℕ) (flags : List Bool)
    : Type 0 where
  pub each : (number : ℕ) → number < length places
      → get_or flags number false ≡ is_folded_of texts (suffix_at suffixes places number)
  pub last : get_or flags max_numbered false ≡ true
