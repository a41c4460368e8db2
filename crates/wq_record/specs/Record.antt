-- The data of the fields of the type `Record`. No public document defines it.
use Rattle.wq_record.specs.declared.file_record.Record.TheInside.{Inside}
use Rattle.wq_record.specs.RecordData.{RecordData}

-- the record that the fields make
abbrev pub record_data : Inside → RecordData
record_data r = record {
  name = r.name;
  kind = r.kind;
  size = r.size;
  mtime_ms = r.mtime_ms;
  exists = r.exists;
  ctick = r.ctick;
  otick = r.otick;
  csec = r.csec;
  osec = r.osec;
}
