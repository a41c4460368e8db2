-- The meaning of the type `Batch`.
-- It is this server's own.
use Rattle.std.specs.Prelude.{◌≡◌, List}
use Rattle.wq_reply.specs.Listing.{AreWithin}
use Rattle.wq_view.specs.Position.{records_at}
use Rattle.wq_record.specs.RecordData.{RecordData}
use Rattle.wq_follow.specs.Batch.{BatchData}
use Rattle.wq_follow.specs.declared.batch.Batch.{Batch}

-- the batch with the files at its places among these records
abbrev pub batch_at : List RecordData → Batch → BatchData
batch_at records batch = record {
  fresh = batch.fresh;
  from = batch.from;
  now = batch.now;
  files = records_at records batch.files.items;
}

-- the code's batch is this one, and its places are those of records
abbrev pub IsBatch : List RecordData → BatchData → Batch → Type 0
IsBatch records said batch =
    (batch_at records batch ≡ said) × AreWithin records batch.files.items
