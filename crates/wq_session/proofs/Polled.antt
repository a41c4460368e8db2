-- A batch with files has a list, and is polled at a newer view.
use Rattle.std.proofs.Common.{◌≡◌, ◌≢◌, ℕ, List, [], ◌∷◌, length, Some, refl, ap, ◌∙◌}
use Rattle.serde_json.specs.Data.{Data}
use Rattle.serde_json.specs.Written.{compact_text}
use Rattle.wq_follow.specs.Batch.{BatchData}
use Rattle.wq_follow.specs.Follower.{IsBatch}
use Rattle.wq_follow.specs.Subscription.{text_if_any}
use Rattle.wq_follow.specs.declared.batch.Batch.{Batch}
use Rattle.wq_follow.proofs.Rounds.{some_files}
use Rattle.wq_view.specs.Position.{records_at}
use Rattle.wq_record.specs.RecordData.{RecordData}

-- the list of the files of a batch that has some
pub list_told : (records : List RecordData) (said : BatchData) (batch : Batch) (text : List ℕ) (list : List RecordData → Data)
    → IsBatch records said batch → length batch.files.items ≢ 0
    → text ≡ compact_text (list (records_at records batch.files.items))
    → Some text ≡ text_if_any said.files (list said.files)
list_told records said batch text list is some told =
    at said.files (some_files records said batch is some)
    (told ∙ ap (λ (b : BatchData). compact_text (list b.files)) is.0)
  where
    at : (files : List RecordData) → files ≢ [] → text ≡ compact_text (list files)
        → Some text ≡ text_if_any files (list files)
    at [] some e = absurd (some refl)
    at (file ∷ files) some e = ap Some e
