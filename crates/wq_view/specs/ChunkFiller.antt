-- The records that the type `ChunkFiller` stands for. No public document defines it.
use Rattle.std.specs.Prelude.{◌++◌, List}
use Rattle.wq_view.specs.declared.chunk_filler.ChunkFiller.{ChunkFiller}
use Rattle.wq_record.specs.RecordData.{RecordData}

-- the records of the chunks that are made, and the records of the next one
abbrev pub filled : ChunkFiller → List RecordData
filled filling = filling.chunks ++ filling.records.items
