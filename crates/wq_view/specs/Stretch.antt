-- The records that the type `Stretch` stands for. No public document defines it.
use Rattle.std.specs.Prelude.{List}
use Rattle.wq_record.specs.RecordData.{RecordData}
use Rattle.wq_view.specs.Chunk.{slot_records}
use Rattle.wq_view.specs.declared.stretch.Stretch.{Stretch}
use Rattle.wq_view.specs.declared.stretch.Stretch.TheVariants.{Chunk, Start, Rest}

-- the records of a stretch
abbrev pub stretch_records : Stretch → List RecordData
stretch_records (Chunk slot) = slot_records slot.now
stretch_records (Start slot records) = records.now
stretch_records (Rest records) = records.now
