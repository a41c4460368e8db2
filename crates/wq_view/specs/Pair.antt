-- The data of the types of pairs. No public document defines it.
use Rattle.std.specs.Prelude.{Bool, true, List}
use Rattle.wq_view.specs.declared.pair.Pair.{Pair}
use Rattle.wq_view.specs.declared.pair.Pair.TheVariants.{Old, Both, New}
use Rattle.wq_view.specs.declared.pair.Pairs.{Pairs}
use Rattle.wq_record.specs.Seen.{SeenData, is_lawful_row}
use Rattle.wq_view.specs.Merge.{PairData, record_alone, record_and_row, row_alone}
use Rattle.wq_view.specs.Run.{run_pairs, rows_behind}

-- the record, the row or both that a pair has of its name
abbrev pub pair_data : Pair → PairData
pair_data (Old known) = record_alone known.now
pair_data (Both known row) = record_and_row known.now row.now
pair_data (New row) = row_alone row.now

-- the rest of the pairs
abbrev pub pairs_left : Pairs → List PairData
pairs_left pairs = run_pairs pairs.records.now pairs.rows.now

-- the rows after the rest of the pairs
abbrev pub rows_left : Pairs → List SeenData
rows_left pairs = rows_behind pairs.records.now pairs.rows.now

-- whether the row of a pair is lawful, if there is one
abbrev pub has_lawful_row : PairData → Bool
has_lawful_row (record_alone r) = true
has_lawful_row (record_and_row r row) = is_lawful_row row
has_lawful_row (row_alone row) = is_lawful_row row
