-- Lists of uses of cursors, and their result. Cursors are those of Watchman's documentation (named
-- cursors in clockspecs).
use Rattle.std.specs.Prelude.{ℕ, ◌≡◌, Bool, false, List, [], ◌∷◌, ◌++◌, Option, None, Some}
use Rattle.std.specs.Prelude.{if◌then◌else◌}
use Rattle.std.specs.List.{list_any}
use Rattle.std.specs.Str.{bytes_eq}
use Rattle.wq_registry.specs.ByName.{ByName, under, put, without}
use Rattle.wq_registry.specs.Root.{larger}

-- a cursor is used at a tick, or unset
pub data Use : Type 0 where
  at_tick : (name : List ℕ) (tick : ℕ) → Use
  unsetting : (name : List ℕ) → Use

-- the cursors after a use
abbrev pub used_by : Use → ByName ℕ → ByName ℕ
used_by (at_tick name tick) xs = put name (larger (under name xs) tick) xs
used_by (unsetting name) xs = without name xs

-- the cursors after uses, one after the other
abbrev pub used : List Use → ByName ℕ → ByName ℕ
used [] xs = xs
used (u ∷ us) xs = used us (used_by u xs)

-- whether a use unsets a cursor
abbrev pub unsets : List ℕ → Use → Bool
unsets name (at_tick n tick) = false
unsets name (unsetting n) = bytes_eq name n

-- the tick that a use gives to a cursor
abbrev pub tick_given : List ℕ → Use → List ℕ
tick_given name (at_tick n tick) = if bytes_eq name n then tick ∷ [] else []
tick_given name (unsetting n) = []

-- the ticks that a cursor was given since it was last unset
abbrev pub given_since : List ℕ → List Use → List ℕ
given_since name [] = []
given_since name (u ∷ us) =
    if list_any (unsets name) us then given_since name us
    else tick_given name u ++ given_since name us

-- the greatest of some ticks
abbrev pub greatest_tick : List ℕ → Option ℕ
greatest_tick [] = None
greatest_tick (tick ∷ ticks) = Some (larger (greatest_tick ticks) tick)

-- the tick of a cursor is the greatest that it was given since it was last unset
abbrev pub TheGreatestTickCounts : Type 0
TheGreatestTickCounts = (uses : List Use) (name : List ℕ)
    → under name (used uses []) ≡ greatest_tick (given_since name uses)
