-- A run of records, and the part of a pass that belongs to it: the rows up to the name of its last
-- record. The rows after them belong to later records. No public document defines it.
use Rattle.std.specs.Prelude.{ℕ, ℤ, Bool, List, [], ◌∷◌, map}
use Rattle.std.specs.FinMap.Entries.{by_order}
use Rattle.std.specs.List.{list_all}
use Rattle.wq_record.specs.Seen.{SeenData}
use Rattle.wq_record.specs.Name.{name_cmp}
use Rattle.wq_view.specs.Merge.{PairData, pairs_from, has_record, is_unchanged, pair_after}
use Rattle.wq_record.specs.RecordData.{RecordData}

-- the pairs of a run and the rows that belong to it
abbrev pub run_pairs : List RecordData → List SeenData → List PairData
run_pairs [] rows = []
run_pairs (r ∷ rs) rows = pairs_from r (run_pairs rs) rows

-- the rows that are after the name of a record, and after the later records
abbrev pub rows_after : RecordData → (List SeenData → List SeenData) → List SeenData → List SeenData
rows_after r later [] = later []
rows_after r later (row ∷ rows) =
    by_order (name_cmp r.name row.name) (later (row ∷ rows)) (later rows) (rows_after r later rows)

-- the rows after the ones that belong to a run
abbrev pub rows_behind : List RecordData → List SeenData → List SeenData
rows_behind [] rows = rows
rows_behind (r ∷ rs) rows = rows_after r (rows_behind rs) rows

-- whether a pass with these rows leaves a run as it is
abbrev pub is_same_run : List RecordData → List SeenData → Bool
is_same_run rs rows = list_all is_unchanged (run_pairs rs rows)

-- whether a pass with these rows brings no name into a run
abbrev pub keeps_names : List RecordData → List SeenData → Bool
keeps_names rs rows = list_all has_record (run_pairs rs rows)

-- a run after a pass with these rows
abbrev pub run_after : ℕ → ℤ → List RecordData → List SeenData → List RecordData
run_after tick second rs rows = map (pair_after tick second) (run_pairs rs rows)
