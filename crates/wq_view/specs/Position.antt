-- Positions of records: their places in the list of a view, from 0. They are this server's own.
use Rattle.std.specs.Prelude.{◌≡◌, ◌<◌, ◌≤◌, ◌+◌, ℕ, Bool, false, if◌then◌else◌, All, List, [], ◌∷◌, length, map, filter}
use Rattle.std.specs.Prelude.{bytes_eq, slice_get}
use Rattle.std.specs.List.{filter_map, range_with_len}
use Rattle.std.specs.Option.{option_map_or}
use Rattle.wq_record.specs.RecordData.{RecordData}

-- whether the record has this name
abbrev pub has_name : List ℕ → RecordData → Bool
has_name name r = bytes_eq r.name name

-- whether there is a record at a position that passes the test
abbrev pub passes_at : (RecordData → Bool) → List RecordData → ℕ → Bool
passes_at test records i = option_map_or test (slice_get records i) false

-- the positions of all records, ascending
abbrev pub all_positions : List RecordData → List ℕ
all_positions records = range_with_len 0 (length records)

-- the positions of the records that pass the test, ascending
abbrev pub positions_of : (RecordData → Bool) → List RecordData → List ℕ
positions_of test records = filter (passes_at test records) (all_positions records)

-- the positions of the records that pass the test, if the first record has this position
abbrev pub positions_from : ℕ → (RecordData → Bool) → List RecordData → List ℕ
positions_from start test records = map (λ i. start + i) (positions_of test records)

-- the same, record by record
abbrev pub places_from : (RecordData → Bool) → ℕ → List RecordData → List ℕ
places_from test at [] = []
places_from test at (r ∷ records) =
    if test r then at ∷ places_from test (at + 1) records else places_from test (at + 1) records

-- the records at these positions, in their order
abbrev pub records_at : List RecordData → List ℕ → List RecordData
records_at records positions = filter_map (slice_get records) positions

-- the records at the positions of the records that pass a test are the records that pass it
abbrev pub PositionsFilter : Type 0
PositionsFilter = (test : RecordData → Bool) (records : List RecordData)
    → records_at records (positions_of test records) ≡ filter test records

-- filtering some positions by a test of their records keeps the records there that pass the test
abbrev pub KeptPositionsFilter : Type 0
KeptPositionsFilter = (test : RecordData → Bool) (records : List RecordData) (positions : List ℕ)
    → records_at records (filter (passes_at test records) positions)
    ≡ filter test (records_at records positions)

-- the positions of the records that pass a test are below the number of records, and are at most
-- that many
abbrev pub PositionsAreThere : Type 0
PositionsAreThere = (test : RecordData → Bool) (records : List RecordData)
    → All (λ i. i < length records) (positions_of test records)
    × (length (positions_of test records) ≤ length records)
