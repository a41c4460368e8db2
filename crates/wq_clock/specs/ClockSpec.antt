-- The clock spec that a text spells: a clock id, an old clock id, a named cursor, or nothing. The
-- source is Watchman's documentation of clockspecs. The limits are this server's own.
use Rattle.std.specs.Prelude.{ℕ, ◌≤◌, List, [], ◌∷◌, Option, Some, None, ◌&&◌, nat_le, nat_eq, length, drop, codes, if◌then◌else◌}
use Rattle.std.specs.Option.{option_and_then}
use Rattle.std.specs.List.{slice_split, starts_with}
use Rattle.wq_base.specs.Limit.{max_number}
use Rattle.wq_base.specs.Byte.{is_colon}
use Rattle.wq_base.specs.Decimal.{unsigned_of}
use Rattle.wq_base.specs.Fault.{with_first}
use Rattle.wq_clock.specs.Limit.{max_cursor_name}
use Rattle.wq_clock.specs.Instance.{InstanceData, IsInRange}

-- a clock spec that is a text
pub data SpecData : Type 0 where
  clock_id : (instance : InstanceData) (tick : ℕ) → SpecData
  old_clock_id : SpecData
  named_cursor : (name : List ℕ) → SpecData

-- the numbers and the name of a clock spec are within the limits
abbrev pub IsWithinLimits : SpecData → Type 0
IsWithinLimits (clock_id instance tick) = IsInRange instance × (tick ≤ max_number)
IsWithinLimits old_clock_id = Unit {0}
IsWithinLimits (named_cursor name) = (1 ≤ length name) × (length name ≤ max_cursor_name)

-- the parts of a text between its colons
abbrev pub colon_parts : List ℕ → List (List ℕ)
colon_parts text = slice_split is_colon text

-- the numbers of all parts in their order, if each part is a number
abbrev pub numbers_of : List (List ℕ) → Option (List ℕ)
numbers_of [] = Some []
numbers_of (part ∷ parts) = with_first (unsigned_of max_number part) (numbers_of parts)

-- four numbers are a clock id, and two are an old one
abbrev pub id_from_numbers : List ℕ → Option SpecData
id_from_numbers (start ∷ pid ∷ root ∷ tick ∷ []) =
    Some (clock_id (record { start = start; pid = pid; root = root }) tick)
id_from_numbers (first ∷ second ∷ []) = Some old_clock_id
id_from_numbers _ = None

-- the id of the text after `c:`, whose numbers are between its colons
abbrev pub id_of : List ℕ → Option SpecData
id_of text = option_and_then id_from_numbers (numbers_of (colon_parts text))

-- the cursor of the text after `n:`: a name of 1 to 255 bytes
abbrev pub cursor_of : List ℕ → Option SpecData
cursor_of name =
    if nat_le 1 (length name) && nat_le (length name) max_cursor_name
    then Some (named_cursor name) else None

-- the clock spec that a text spells, if it spells one
abbrev pub clock_spec_of : List ℕ → Option SpecData
clock_spec_of text =
    if starts_with nat_eq text (codes "c:") then id_of (drop 2 text)
    else (if starts_with nat_eq text (codes "n:") then cursor_of (drop 2 text) else None)
