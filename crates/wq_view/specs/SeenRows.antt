-- The rows of a listing that says of the files just what the records of a view say. No public
-- document defines it.
use Rattle.std.specs.Prelude.{List, map, filter}
use Rattle.wq_record.specs.RecordData.{RecordData}
use Rattle.wq_record.specs.Seen.{SeenData}

-- the row of a file as its record says it
abbrev pub seen_row : RecordData → SeenData
seen_row r = record { name = r.name; kind = r.kind; size = r.size; mtime_ms = r.mtime_ms }

-- the rows of the files that exist
abbrev pub seen_rows : List RecordData → List SeenData
seen_rows records = map seen_row (filter (λ r. r.exists) records)
