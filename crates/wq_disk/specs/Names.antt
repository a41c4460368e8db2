-- The names of a directory, held in one text. No public document defines it.
use Rattle.std.specs.Prelude.{◌≡◌, ℕ, nat_le, ◌++◌, ◌&&◌, if◌then◌else◌, List, [], length, map, slice_range, take, drop, replicate}
use Rattle.std.specs.Prelude.{IsTrue}
use Rattle.std.specs.Int.{from_be_bytes, w128}
use Rattle.std.specs.List.{All}
use Rattle.std.specs.Ordering.{nat_cmp, ordering_then}
use Rattle.std.specs.declared.cmp.Ordering.{Ordering}
use Rattle.wq_record.specs.Name.{name_cmp}
use Rattle.wq_disk.specs.declared.names.Place.{Place}
use Rattle.wq_disk.specs.Entries.{AreEntriesOf, is_entry, names_of_text}

-- the name at a place of a text, or nothing if the place is not in the text
abbrev pub name_at : List ℕ → Place → List ℕ
name_at bytes place =
    if nat_le place.start place.end && nat_le place.end (length bytes)
    then slice_range bytes place.start place.end
    else []

-- the names at places of a text
abbrev pub names_at : List ℕ → List Place → List (List ℕ)
names_at bytes places = map (name_at bytes) places

-- the places of names of entries in a text
abbrev pub AreOfEntries : List ℕ → List Place → Type 0
AreOfEntries bytes places = All (λ place. IsTrue (is_entry (name_at bytes place))) places

-- the names at places of a text are those of all entries in it
abbrev pub AreAllEntries : List ℕ → List Place → Type 0
AreAllEntries text places = AreEntriesOf (names_of_text text) (names_at text places)

-- the first 16 bytes of a name, and zeros up to that number
abbrev pub head_bytes : List ℕ → List ℕ
head_bytes name = take 16 name ++ drop (length name) (replicate 16 0)

-- the first 16 bytes of a name as a number, whose last bytes are 0 if the name is shorter
unfoldable pub name_head : List ℕ → ℕ
name_head name = from_be_bytes w128 (head_bytes name)

-- each place has the head of the name there
abbrev pub HaveHeads : List ℕ → List Place → Type 0
HaveHeads bytes places = All (λ place. place.head ≡ name_head (name_at bytes place)) places

-- the order of two places: that of their heads, and then that of their names
abbrev pub place_cmp : List ℕ → Place → Place → Ordering
place_cmp bytes a b =
    ordering_then (nat_cmp a.head b.head) (name_cmp (name_at bytes a) (name_at bytes b))
