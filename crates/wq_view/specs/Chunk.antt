-- The chunks of a view's records. Views share chunks.
-- No public document defines them.
use Rattle.std.specs.Prelude.{◌≡◌, ◌+◌, ◌-◌, ◌≤◌, ◌<◌, ℕ, Bool, List, [], ◌∷◌, take, length, slice_get, slice_index_or}
use Rattle.std.specs.Arc.{arc_value}
use Rattle.std.specs.List.{flat_map}
use Rattle.wq_view.specs.declared.chunk.Slot.{Slot}
use Rattle.wq_record.specs.RecordData.{RecordData}
use Rattle.wq_view.specs.Position.{passes_at}

-- the records of a slot
abbrev pub slot_records : Slot → List RecordData
slot_records slot = arc_value slot.chunk

-- the records of slots, one after the other
abbrev pub records_in : List Slot → List RecordData
records_in slots = flat_map slot_records slots

-- chunks one after the other, after so many records. Each chunk has one record at least, and its
-- slot has the number of records up to its last one
abbrev pub AreChunks : ℕ → List Slot → Type 0
AreChunks before [] = Unit {0}
AreChunks before (slot ∷ slots) =
    (slot.end ≡ before + length (slot_records slot)) × (1 ≤ length (slot_records slot))
    × AreChunks slot.end slots

-- the number of records before a slot
abbrev pub count_before : List Slot → ℕ → ℕ
count_before slots at = length (records_in (take at slots))

-- the records of a slot, and the number of records before it
pub record IsChunkAt (slots : List Slot) (at start : ℕ) (run : List RecordData) : Type 0 where
  pub before : start ≡ count_before slots at
  pub records : (d : Slot) → run ≡ slot_records (slice_index_or slots at d)

-- records that are in a list one after the other, from a place on
abbrev pub IsRunAt : List RecordData → ℕ → List RecordData → Type 0
IsRunAt records start run =
    (i : ℕ) → i < length run → slice_get records (start + i) ≡ slice_get run i

-- records that are in a list one after the other, from a place on, and end within it
pub record IsPiece (all : List RecordData) (start : ℕ) (run : List RecordData) : Type 0 where
  pub run_at : IsRunAt all start run
  pub fits : start + length run ≤ length all

-- whether the last record of a chunk passes a test
abbrev pub is_chunk_before : (RecordData → Bool) → Slot → Bool
is_chunk_before test slot = passes_at test (slot_records slot) (length (slot_records slot) - 1)
