-- The text of a long reply: the bytes that are printed when it is made, and those that are printed
-- while it is sent. The texts are compact JSON of RFC 8259.
use Rattle.std.specs.Prelude.{◌≡◌, ℕ, Bool, List, ◌++◌, Option, codes, drop, map}
use Rattle.std.specs.Io.KnownBytes.{Appends}
use Rattle.serde_json.specs.Data.{Data}
use Rattle.wq_view.specs.Position.{records_at}
use Rattle.wq_record.specs.RecordData.{RecordData}
use Rattle.wq_reply.specs.Rows.{end_text, rows_text}

-- how many files have their rows in the bytes that are printed first
abbrev pub head_files : ℕ
head_files = 1024

-- the bytes of a reply after its last row
abbrev pub close_text : Bool → List ℕ
close_text fresh = codes "]" ++ end_text fresh

-- the text of a long reply that lists the files at these places: its first bytes, the rows of the
-- files after the first ones, and the last bytes
abbrev pub long_text : List ℕ → (RecordData → Data) → List RecordData → List ℕ → Bool → List ℕ
long_text head tell records places fresh =
    head ++ (rows_text (map tell (records_at records (drop head_files places)))
    ++ close_text fresh)

-- the writer took a front of the bytes, which may be all of them
abbrev pub WritesSome : Option (List ℕ) → Option (List ℕ) → List ℕ → Type 0
WritesSome before after bytes =
    (front : List ℕ) × (back : List ℕ) × (bytes ≡ front ++ back) × Appends before after front
