-- The step by which a view takes in a pass: records and rows in the order of their names, side by
-- side. The meaning of the result is in the view of a history.
use Rattle.std.specs.Prelude.{ℕ, ℤ, Bool, true, false, not, ◌&&◌, List, [], ◌∷◌, map, Some, None}
use Rattle.std.specs.FinMap.Entries.{by_order}
use Rattle.std.specs.List.{list_all}
use Rattle.wq_record.specs.Seen.{SeenData, stat_of, same_stat}
use Rattle.wq_record.specs.Name.{name_cmp}
use Rattle.wq_record.specs.RecordData.{RecordData, last_stat, blank_record, record_after}

-- the record or the row of a name, or both: a record alone, a record and a row, or a row alone
pub data PairData : Type 0 where
  record_alone : RecordData → PairData
  record_and_row : RecordData → SeenData → PairData
  row_alone : SeenData → PairData

-- the pairs of a record, of the records after it, and of these rows
abbrev pub pairs_from : RecordData → (List SeenData → List PairData) → List SeenData
    → List PairData
pairs_from r later [] = record_alone r ∷ later []
pairs_from r later (row ∷ rows) =
    by_order (name_cmp r.name row.name)
    (record_alone r ∷ later (row ∷ rows))
    (record_and_row r row ∷ later rows)
    (row_alone row ∷ pairs_from r later rows)

-- the pairs of records and rows with rising names, in the order of names
abbrev pub pairs_of : List RecordData → List SeenData → List PairData
pairs_of [] rows = map row_alone rows
pairs_of (r ∷ rs) rows = pairs_from r (pairs_of rs) rows

-- whether the row says of the file the same as the record, or there is no row and the file is
-- deleted
abbrev pub is_unchanged : PairData → Bool
is_unchanged (record_alone r) = not r.exists
is_unchanged (record_and_row r row) = r.exists && same_stat (last_stat r) (stat_of row)
is_unchanged (row_alone row) = false

-- whether there is a record of the name
abbrev pub has_record : PairData → Bool
has_record (record_alone r) = true
has_record (record_and_row r row) = true
has_record (row_alone row) = false

-- whether the rows say the same as the records of the files that exist
abbrev pub shows : List RecordData → List SeenData → Bool
shows rs rows = list_all is_unchanged (pairs_of rs rows)

-- the record of the name after a pass
abbrev pub pair_after : ℕ → ℤ → PairData → RecordData
pair_after tick second (record_alone r) = record_after r None tick second
pair_after tick second (record_and_row r row) = record_after r (Some (stat_of row)) tick second
pair_after tick second (row_alone row) =
    record_after (blank_record row.name) (Some (stat_of row)) tick second

-- the records after a pass with these rows
abbrev pub records_after : ℕ → ℤ → List RecordData → List SeenData → List RecordData
records_after tick second rs rows = map (pair_after tick second) (pairs_of rs rows)
