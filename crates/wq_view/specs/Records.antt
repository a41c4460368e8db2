-- The data that the iterator over records stands for. No public document defines it.
use Rattle.std.specs.Prelude.{◌++◌, List}
use Rattle.std.specs.Borrow.{Bor}
use Rattle.wq_view.specs.declared.records.Records.{Records}
use Rattle.wq_record.specs.RecordData.{RecordData}
use Rattle.wq_view.specs.Chunk.{records_in}

-- the record at a place
abbrev pub record_value : Bor RecordData → RecordData
record_value r = r.now

-- the records that are left
abbrev pub records_left : Records → List RecordData
records_left it = it.records.now ++ records_in it.slots.now
