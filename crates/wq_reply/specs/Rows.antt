-- The text of a reply in parts: the bytes before the list of files, its rows piece by piece, and
-- the bytes after it. The texts are compact JSON of RFC 8259.
use Rattle.std.specs.Prelude.{◌≡◌, ℕ, Bool, List, [], ◌∷◌, ◌++◌, map, codes}
use Rattle.json.specs.Print.{quoted}
use Rattle.serde_json.specs.Data.{Data, boolean}
use Rattle.serde_json.specs.Written.{compact_text}
use Rattle.wq_clock.specs.Instance.{instance_data}
use Rattle.wq_eval.specs.Piece.{piece_of}
use Rattle.wq_view.specs.Position.{records_at}
use Rattle.wq_reply.specs.Printing.{told}
use Rattle.wq_reply.specs.declared.rows.Printed.{Printed}
use Rattle.wq_reply.specs.declared.rows.Rows.{Rows}

-- the text of rows, each with a comma before it
abbrev pub rows_text : List Data → List ℕ
rows_text [] = []
rows_text (d ∷ ds) = 44 ∷ (compact_text d ++ rows_text ds)

-- the text of a list up to its last row: its first bracket, and the rows with a comma between two
abbrev pub opened : List Data → List ℕ
opened [] = 91 ∷ []
opened (d ∷ ds) = 91 ∷ (compact_text d ++ rows_text ds)

-- the data of the rows of the files at these places
abbrev pub data_at : Rows → List ℕ → List Data
data_at rows places =
    map (told rows.form.now (instance_data rows.instance.now) rows.bound)
    (records_at rows.view.now.records places)

-- the data of all rows
abbrev pub rows_data : Rows → List Data
rows_data rows = data_at rows rows.places.now

-- what was printed is the text of the piece of this number
abbrev pub IsPrinted : Rows → Printed → Type 0
IsPrinted rows printed =
    printed.text.items
    ≡ rows_text (data_at rows (piece_of rows.size rows.places.now printed.number))

-- the bytes of a reply before the list, with this clock
abbrev pub start_text : List ℕ → List ℕ
start_text clock = codes "{\"clock\":" ++ (quoted clock ++ codes ",\"files\":")

-- the bytes of a reply after the list
abbrev pub end_text : Bool → List ℕ
end_text fresh =
    codes ",\"is_fresh_instance\":" ++ (compact_text (boolean fresh)
    ++ codes ",\"version\":\"wq-1\"}")
