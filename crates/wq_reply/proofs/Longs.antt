-- The text of a long reply.
use Rattle.std.proofs.Common.{◌≡◌, ◌≤◌, ◌<◌, ◌++◌, ◌⊎◌, inl, inr, ℕ, zero, suc, true, false, List, [], ◌∷◌, Some, None, map, take, drop, length, append_assoc, codes, refl, sym, ap, ◌∙◌, arith}
use Rattle.std.proofs.Math.ListN.{get_or}
use Rattle.std.proofs.lemmas.List.{map-append, take-append-drop}
use Rattle.std.proofs.lemmas.List.Elements.{filter_map-append}
use Rattle.std.proofs.lemmas.Option.{slice_get_cases}
use Rattle.std.specs.Prelude.{slice_get}
use Rattle.std.specs.List.{cons_option}
use Rattle.json.specs.Print.{escape_byte}
use Rattle.serde_json.specs.Data.{Data, array}
use Rattle.serde_json.specs.View.{items_of}
use Rattle.serde_json.specs.Written.{compact_text}
use Rattle.wq_clock.specs.Bound.{is_fresh}
use Rattle.wq_clock.specs.ClockText.{clock_text}
use Rattle.wq_clock.specs.Instance.{InstanceData}
use Rattle.wq_record.specs.RecordData.{RecordData}
use Rattle.wq_view.specs.View.{ViewData}
use Rattle.wq_view.specs.Position.{records_at}
use Rattle.wq_reply.specs.Listing.{AreWithin, files_of}
use Rattle.wq_reply.specs.Long.{close_text, head_files}
use Rattle.wq_reply.specs.Printing.{IsFormOf, told}
use Rattle.wq_reply.specs.Plan.{PlanData}
use Rattle.wq_reply.specs.Reply.{reply_of}
use Rattle.wq_reply.specs.Rows.{end_text, opened, rows_text, start_text}
use Rattle.wq_reply.specs.declared.form.Form.{Form}
use Rattle.wq_reply.specs.declared.long.TheConstants.{CLOSE, CLOSE_FRESH}
use Rattle.wq_reply.proofs.RowTexts.{list-opened, rows-append, whole-reply}

-- the bytes after the rows, if the bound is fresh
pub close_fresh : CLOSE_FRESH.now ≡ close_text true ++ codes "\n"
unfolding escape_byte
close_fresh = refl

-- and if it is not
pub close_other : CLOSE.now ≡ close_text false ++ codes "\n"
unfolding escape_byte
close_other = refl

-- a list that has some rows up to its last bracket, and more rows
opened-append : (d : Data) (ds es : List Data) → opened (d ∷ ds) ++ rows_text es ≡ opened (d ∷ (ds ++ es))
opened-append d ds es =
    ap (λ l. 91 ∷ l) (append_assoc (compact_text d) (rows_text ds) (rows_text es) ∙ ap (λ l. compact_text d ++ l) (sym (rows-append ds es)))

module _ (tell : RecordData → Data) (records : List RecordData) where
  -- the data of the files at these places
  abbrev pub told_at : List ℕ → List Data
  told_at places = map tell (records_at records places)

  -- the data at some places and then at others
  both : (xs ys : List ℕ) → told_at (xs ++ ys) ≡ told_at xs ++ told_at ys
  both xs ys = ap (map tell) (filter_map-append (slice_get records) xs ys) ∙ map-append tell (records_at records xs) (records_at records ys)

  -- a list up to its last bracket is that of its first rows, and its other rows
  pub opened-rows : (places : List ℕ) (first : ℕ) → AreWithin records places → 1 ≤ first → 1 ≤ length places
      → opened (told_at (take first places)) ++ rows_text (told_at (drop first places)) ≡ opened (told_at places)
  opened-rows [] first within one some = absurd (omega (arith, some))
  opened-rows (p ∷ ps) zero within one some = absurd (omega (arith, one))
  opened-rows (p ∷ ps) (suc k) within one some = by (slice_get_cases records p).1
    where
      by : ((r : RecordData) × (p < length records) × (slice_get records p ≡ Some r) × (get_or records p r ≡ r)) ⊎ ((length records ≤ p) × (slice_get records p ≡ None))
          → opened (told_at (p ∷ take k ps)) ++ rows_text (told_at (drop k ps)) ≡ opened (told_at (p ∷ ps))
      by (inl (r, there, found, read)) =
          let one-first : (xs : List ℕ) → told_at (p ∷ xs) ≡ tell r ∷ told_at xs =
          λ xs. ap (λ o. map tell (cons_option o (records_at records xs))) found in
          ap (λ l. opened l ++ rows_text (told_at (drop k ps))) (one-first (take k ps))
          ∙ opened-append (tell r) (told_at (take k ps)) (told_at (drop k ps))
          ∙ ap (λ l. opened (tell r ∷ l)) (sym (both (take k ps) (drop k ps)) ∙ ap told_at (take-append-drop k ps))
          ∙ ap opened (sym (one-first ps))
      by (inr (past, none)) = absurd (omega (arith, past, within 0 p (omega arith)))

-- the text of a long reply is that of the reply
pub whole : (form : Form) (plan : PlanData) (instance : InstanceData) (view : ViewData) (places head : List ℕ)
    → IsFormOf plan.query.fields form → AreWithin view.records places → 1 ≤ length places
    → records_at view.records places ≡ files_of plan view.records
    → head ≡ start_text (clock_text instance view.tick)
    ++ opened (map (told form instance plan.bound) (records_at view.records (take head_files places)))
    → head ++ (rows_text (map (told form instance plan.bound) (records_at view.records (drop head_files places))) ++ close_text (is_fresh plan.bound))
    ≡ compact_text (reply_of plan instance view)
whole form plan instance view places head is within some listed headed =
    let tell : RecordData → Data = told form instance plan.bound in
    let start = start_text (clock_text instance view.tick) in
    let first = opened (map tell (records_at view.records (take head_files places))) in
    let rest = rows_text (map tell (records_at view.records (drop head_files places))) in
    let end = end_text (is_fresh plan.bound) in
    let all = map tell (records_at view.records places) in
    let inside : first ++ (rest ++ close_text (is_fresh plan.bound)) ≡ compact_text (array (items_of all)) ++ end =
    sym (append_assoc first rest (close_text (is_fresh plan.bound)))
    ∙ ap (λ l. l ++ close_text (is_fresh plan.bound)) (opened-rows tell view.records places head_files within (omega arith) some)
    ∙ sym (append_assoc (opened all) (93 ∷ []) end)
    ∙ ap (λ l. l ++ end) (sym (list-opened all)) in
    let parts : head ++ (rest ++ close_text (is_fresh plan.bound)) ≡ start ++ (compact_text (array (items_of all)) ++ end) =
    ap (λ l. l ++ (rest ++ close_text (is_fresh plan.bound))) headed
    ∙ append_assoc start first (rest ++ close_text (is_fresh plan.bound)) ∙ ap (λ l. start ++ l) inside in
    whole-reply form plan instance view (records_at view.records places) _ is listed parts
