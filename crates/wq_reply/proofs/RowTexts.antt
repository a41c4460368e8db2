-- Rows with a comma before each, and a list in brackets.
use Rattle.std.proofs.Common.{◌≡◌, ◌≤◌, ◌<◌, ◌*◌, ◌+◌, ◌-◌, ◌++◌, ◌⊎◌, inl, inr, ℕ, true, List, [], ◌∷◌, Some, None, map, take, length, append_assoc, codes, refl, sym, ap, ◌∙◌, arith}
use Rattle.std.proofs.Math.ListN.{get_or}
use Rattle.std.proofs.Math.Nat.{suc-mul}
use Rattle.std.proofs.Math.Numerals.{suc-eq-add-one}
use Rattle.std.proofs.Math.Seq.{take-add, take-append_seam}
use Rattle.std.proofs.lemmas.List.{length-append, map-append}
use Rattle.std.proofs.lemmas.List.Elements.{filter_map-append}
use Rattle.std.proofs.lemmas.Option.{slice_get_cases}
use Rattle.std.specs.Prelude.{slice_get}
use Rattle.std.specs.List.{cons_option}
use Rattle.json.specs.Print.{escape_byte, quoted}
use Rattle.serde_json.specs.Data.{Data, array}
use Rattle.serde_json.specs.View.{items_of}
use Rattle.serde_json.specs.Written.{compact_text, items_text}
use Rattle.wq_clock.specs.Bound.{is_fresh}
use Rattle.wq_clock.specs.ClockText.{clock_text}
use Rattle.wq_clock.specs.Instance.{InstanceData, instance_data}
use Rattle.wq_eval.specs.Piece.{piece_of}
use Rattle.wq_record.specs.RecordData.{RecordData}
use Rattle.wq_view.specs.View.{ViewData}
use Rattle.wq_view.specs.Position.{records_at}
use Rattle.wq_reply.specs.Listing.{AreWithin, files_of}
use Rattle.wq_reply.specs.Printing.{IsFormOf, told}
use Rattle.wq_reply.specs.Plan.{PlanData}
use Rattle.wq_reply.specs.Reply.{file_data, reply_files, reply_of}
use Rattle.wq_reply.specs.Rows.{data_at, end_text, opened, rows_text, start_text}
use Rattle.wq_reply.specs.declared.form.Form.{Form}
use Rattle.wq_reply.specs.declared.rows.Rows.{Rows}

-- the rows of two lists are those of the one and then those of the other
pub rows-append : (xs ys : List Data) → rows_text (xs ++ ys) ≡ rows_text xs ++ rows_text ys
rows-append [] ys = refl
rows-append (d ∷ ds) ys =
    ap (λ l. 44 ∷ (compact_text d ++ l)) (rows-append ds ys)
    ∙ ap (λ l. 44 ∷ l) (sym (append_assoc (compact_text d) (rows_text ds) (rows_text ys)))

-- the data at some places and then at others
pub data-append : (rows : Rows) (xs ys : List ℕ) → data_at rows (xs ++ ys) ≡ data_at rows xs ++ data_at rows ys
data-append rows xs ys =
    ap (map _) (filter_map-append (slice_get rows.view.now.records) xs ys)
    ∙ map-append _ (records_at rows.view.now.records xs) (records_at rows.view.now.records ys)

-- the rows before the next piece are those before this one, and those of this one
pub next_rows : (rows : Rows) (number : ℕ)
    → rows_text (data_at rows (take (number * rows.size) rows.places.now))
    ++ rows_text (data_at rows (piece_of rows.size rows.places.now number))
    ≡ rows_text (data_at rows (take ((number + 1) * rows.size) rows.places.now))
next_rows rows number =
    let size = rows.size in
    let places = rows.places.now in
    let more : (number + 1) * size ≡ number * size + size = ap (λ n. n * size) (sym (suc-eq-add-one number)) ∙ suc-mul number size in
    sym (rows-append (data_at rows (take (number * size) places)) (data_at rows (piece_of size places number)))
    ∙ ap rows_text (sym (data-append rows (take (number * size) places) (piece_of size places number)))
    ∙ ap (λ l. rows_text (data_at rows l)) (sym (take-add (number * size) size places) ∙ ap (λ n. take n places) (sym more))

-- the items of a list after the first one are rows, and a bracket
pub items-rows : (ds : List Data) → items_text true (items_of ds) ≡ rows_text ds ++ 93 ∷ []
items-rows [] = refl
items-rows (d ∷ ds) =
    ap (λ l. 44 ∷ (compact_text d ++ l)) (items-rows ds)
    ∙ ap (λ l. 44 ∷ l) (sym (append_assoc (compact_text d) (rows_text ds) (93 ∷ [])))

-- a list is its first bracket with its rows, and the last bracket
pub list-opened : (ds : List Data) → compact_text (array (items_of ds)) ≡ opened ds ++ 93 ∷ []
list-opened [] = refl
list-opened (d ∷ ds) =
    ap (λ l. 91 ∷ (compact_text d ++ l)) (items-rows ds)
    ∙ ap (λ l. 91 ∷ l) (sym (append_assoc (compact_text d) (rows_text ds) (93 ∷ [])))

-- without the last byte
pub popped : (text front : List ℕ) (b : ℕ) → text ≡ front ++ b ∷ [] → take (length text - 1) text ≡ front
popped text front b is =
    let count : length text - 1 ≡ length front = omega (arith, ap length is, length-append front (b ∷ [])) in
    ap (λ n. take n text) count ∙ ap (take (length front)) is ∙ take-append_seam front (b ∷ [])

-- the rows of a list that has some, without its last bracket and with a comma in place of the first
pub comma-first : (list popped-list : List ℕ) (d : Data) (ds : List Data)
    → popped-list ≡ take (length list - 1) list → list ≡ compact_text (array (items_of (d ∷ ds)))
    → popped-list ≡ 91 ∷ (compact_text d ++ rows_text ds)
comma-first list rest d ds is all = is ∙ popped list (opened (d ∷ ds)) 93 (all ∙ list-opened (d ∷ ds))

-- what is said of a list that has some rows holds of the rows of the files at some places
pub with-first : (rows : Rows) (places list result : List ℕ) → AreWithin rows.view.now.records places
    → (length places ≡ 0 → ⊥) → list ≡ compact_text (array (items_of (data_at rows places)))
    → ((d : Data) (ds : List Data) → list ≡ compact_text (array (items_of (d ∷ ds))) → result ≡ rows_text (d ∷ ds))
    → result ≡ rows_text (data_at rows places)
with-first rows [] list result within some is gives = absurd (some refl)
with-first rows (p ∷ ps) list result within some is gives = by (slice_get_cases rows.view.now.records p).1
  where
    by : ((r : RecordData) × (p < length rows.view.now.records) × (slice_get rows.view.now.records p ≡ Some r) × (get_or rows.view.now.records p r ≡ r)) ⊎ ((length rows.view.now.records ≤ p) × (slice_get rows.view.now.records p ≡ None))
        → result ≡ rows_text (data_at rows (p ∷ ps))
    by (inl (r, there, found, read)) =
        let tell : RecordData → Data = told rows.form.now (instance_data rows.instance.now) rows.bound in
        let first : data_at rows (p ∷ ps) ≡ tell r ∷ data_at rows ps =
        ap (λ o. map tell (cons_option o (records_at rows.view.now.records ps))) found in
        gives (tell r) (data_at rows ps) (is ∙ ap (λ l. compact_text (array (items_of l))) first) ∙ ap rows_text (sym first)
    by (inr (past, none)) = absurd (omega (arith, past, within 0 p (omega arith)))

-- the text of a reply is its start, its list and its end
pub reply_in_parts : (plan : PlanData) (instance : InstanceData) (view : ViewData)
    → start_text (clock_text instance view.tick)
    ++ (compact_text (array (items_of (reply_files plan instance view.records))) ++ end_text (is_fresh plan.bound))
    ≡ compact_text (reply_of plan instance view)
unfolding escape_byte
reply_in_parts plan instance view =
    ap (λ l. codes "{\"clock\":" ++ l) (append_assoc (quoted (clock_text instance view.tick)) (codes ",\"files\":") _)

-- the data that two tellings agree on
told-same : (f g : RecordData → Data) → ((r : RecordData) → f r ≡ g r) → (files : List RecordData) → map f files ≡ map g files
told-same f g same [] = refl
told-same f g same (r ∷ rs) = ap (λ d. d ∷ map f rs) (same r) ∙ ap (λ ds. g r ∷ ds) (told-same f g same rs)

-- the text of a reply was made in parts
pub whole-reply : (form : Form) (plan : PlanData) (instance : InstanceData) (view : ViewData) (files : List RecordData) (text : List ℕ)
    → IsFormOf plan.query.fields form → files ≡ files_of plan view.records
    → text ≡ start_text (clock_text instance view.tick)
    ++ (compact_text (array (items_of (map (told form instance plan.bound) files))) ++ end_text (is_fresh plan.bound))
    → text ≡ compact_text (reply_of plan instance view)
whole-reply form plan instance view files text is listed parts =
    let tell : RecordData → Data = told form instance plan.bound in
    let same : map tell files ≡ reply_files plan instance view.records =
    ap (map tell) listed ∙ told-same tell (file_data plan.query.fields instance plan.bound) (is instance plan.bound) (files_of plan view.records) in
    parts
    ∙ ap (λ ds. start_text (clock_text instance view.tick) ++ (compact_text (array (items_of ds)) ++ end_text (is_fresh plan.bound))) same
    ∙ reply_in_parts plan instance view
