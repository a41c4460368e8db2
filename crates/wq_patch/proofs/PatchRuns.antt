-- The patches of a piece of a view with one more record, or one more row.
use Rattle.std.proofs.Common.{◌≡◌, ◌+◌, ◌≤◌, ℕ, List, [], ◌∷◌, ◌++◌, take, drop, length, append_assoc, Result, Ok, Err, OnErr, refl, ap, sym, subst, ◌∙◌, arith}
use Rattle.std.proofs.lemmas.List.{append-nil, drop-drop, length-drop}
use Rattle.wq_record.specs.RecordData.{RecordData}
use Rattle.wq_record.specs.Seen.{SeenData}
use Rattle.wq_view.specs.SeenRows.{seen_rows}
use Rattle.wq_patch.specs.PatchMaker.{AreInside, IsSamePiece, IsWithin, patches_made, records_behind, records_to_come, rows_before, rows_made}
use Rattle.wq_view.specs.declared.patch.Patch.{Patch}
use Rattle.wq_patch.specs.declared.patch_maker.PatchMaker.{PatchMaker}
use Rattle.wq_view.proofs.SeenAgain.{seen_later}

pub regroup : {X : Type 0} (s q b t : List X) → s ++ (q ++ (b ++ t)) ≡ (s ++ (q ++ b)) ++ t
regroup s q b t = sym (append_assoc s (q ++ b) t ∙ ap (λ r. s ++ r) (append_assoc q b t))

-- one patch more: the rows up to its end
pub rows_more : (records : List RecordData) (ps : List Patch) (p : Patch) → rows_before records (ps ++ (p ∷ [])) ≡ rows_before records ps ++ (seen_rows (take p.kept (records_behind records ps)) ++ p.rows.items)
rows_more records [] p = ap (λ rows. seen_rows (take p.kept records) ++ rows) (append-nil p.rows.items)
rows_more records (q ∷ ps) p =
    let later = drop q.replaced (drop q.kept records) in
    ap (λ rows. seen_rows (take q.kept records) ++ (q.rows.items ++ rows)) (rows_more later ps p)
    ∙ regroup (seen_rows (take q.kept records)) q.rows.items (rows_before later ps) (seen_rows (take p.kept (records_behind later ps)) ++ p.rows.items)

-- the records after it
pub after_more : (records : List RecordData) (ps : List Patch) (p : Patch) → records_behind records (ps ++ (p ∷ [])) ≡ drop p.replaced (drop p.kept (records_behind records ps))
after_more records [] p = refl
after_more records (q ∷ ps) p = after_more (drop q.replaced (drop q.kept records)) ps p

-- its records are there
pub within_more : (records : List RecordData) (ps : List Patch) (p : Patch) → AreInside records ps → p.kept + p.replaced ≤ length (records_behind records ps) → AreInside records (ps ++ (p ∷ []))
within_more records [] p are is = (is, tt)
within_more records (q ∷ ps) p are is = (are.0, within_more (drop q.replaced (drop q.kept records)) ps p are.1 is)

pub within_parts : (records : List RecordData) (ps : List Patch) (p : Patch) → AreInside records (ps ++ (p ∷ [])) → AreInside records ps × (p.kept + p.replaced ≤ length (records_behind records ps))
within_parts records [] p are = (tt, are.0)
within_parts records (q ∷ ps) p are =
    let rest = within_parts (drop q.replaced (drop q.kept records)) ps p are.1 in
    ((are.0, rest.0), rest.1)

-- the rows up to the end of the open patch
abbrev rows_at : List RecordData → List Patch → ℕ → List SeenData → List SeenData
rows_at records done kept rows = rows_before records done ++ (seen_rows (take kept (records_behind records done)) ++ rows)

-- the records after it
abbrev left_at : List RecordData → List Patch → ℕ → ℕ → List RecordData
left_at records done kept replaced = drop replaced (drop kept (records_behind records done))

rows_open : (records : List RecordData) (made : PatchMaker) → made.tail ≡ 0 → rows_made records made ≡ rows_at records made.done.items made.last.kept made.last.rows.items
unfolding rows_made
rows_open records made is =
    ap (λ t. rows_before records (patches_made made) ++ seen_rows (take t (records_behind records (patches_made made)))) is
    ∙ append-nil (rows_before records (patches_made made))
    ∙ rows_more records made.done.items made.last

left_open : (records : List RecordData) (made : PatchMaker) → made.tail ≡ 0 → records_to_come records made ≡ left_at records made.done.items made.last.kept made.last.replaced
unfolding records_to_come
left_open records made is =
    ap (λ t. drop t (records_behind records (patches_made made))) is ∙ after_more records made.done.items made.last

within_open : (records : List RecordData) (made : PatchMaker) → IsWithin records made → AreInside records made.done.items × (made.last.kept + made.last.replaced ≤ length (records_behind records made.done.items))
unfolding IsWithin
within_open records made are = within_parts records made.done.items made.last are.0

open_within : (records : List RecordData) (made : PatchMaker) → made.tail ≡ 0 → AreInside records made.done.items → made.last.kept + made.last.replaced ≤ length (records_behind records made.done.items) → IsWithin records made
unfolding IsWithin
open_within records made is are fits = (within_more records made.done.items made.last are fits, omega (arith, is))

-- so many records more are kept
pub kept_rows : (records : List RecordData) (made next : PatchMaker) (count : ℕ) → next.done.items ≡ made.done.items → next.last ≡ made.last → next.tail ≡ made.tail + count
    → rows_made records next ≡ rows_made records made ++ seen_rows (take count (records_to_come records made))
unfolding rows_made records_to_come
kept_rows records made next count done last tail =
    let ps = patches_made made in
    let after = records_behind records ps in
    (λ j. rows_before records (done j ++ (last j ∷ [])) ++ seen_rows (take (tail j) (records_behind records (done j ++ (last j ∷ [])))))
    ∙ ap (λ rows. rows_before records ps ++ rows) (seen_later after made.tail count)
    ∙ sym (append_assoc (rows_before records ps) (seen_rows (take made.tail after)) (seen_rows (take count (drop made.tail after))))

pub kept_left : (records : List RecordData) (made next : PatchMaker) (count : ℕ) → next.done.items ≡ made.done.items → next.last ≡ made.last → next.tail ≡ made.tail + count
    → records_to_come records next ≡ drop count (records_to_come records made)
unfolding records_to_come
kept_left records made next count done last tail =
    (λ j. drop (tail j) (records_behind records (done j ++ (last j ∷ []))))
    ∙ sym (drop-drop count made.tail (records_behind records (patches_made made)))

pub kept_within : (records : List RecordData) (made next : PatchMaker) (count : ℕ) → next.done.items ≡ made.done.items → next.last ≡ made.last → next.tail ≡ made.tail + count
    → IsWithin records made → count ≤ length (records_to_come records made) → IsWithin records next
unfolding IsWithin records_to_come
kept_within records made next count done last tail are there =
    let after = records_behind records (patches_made made) in
    let sum : made.tail + count ≤ length after = omega (arith, are.1, there, length-drop made.tail after) in
    subst (λ t. AreInside records (patches_made next) × (t ≤ length (records_behind records (patches_made next)))) (sym tail)
    (subst (λ ps. AreInside records ps × (made.tail + count ≤ length (records_behind records ps))) (λ j. sym done j ++ (sym last j ∷ [])) (are.0, sum))

-- nothing changed
pub same_piece : (made next : PatchMaker) → next.done.items ≡ made.done.items → next.last ≡ made.last → next.tail ≡ made.tail → IsSamePiece made next
unfolding IsSamePiece rows_made records_to_come IsWithin
same_piece made next done last tail records = (
  (λ j. rows_before records (done j ++ (last j ∷ [])) ++ seen_rows (take (tail j) (records_behind records (done j ++ (last j ∷ []))))),
  (λ j. drop (tail j) (records_behind records (done j ++ (last j ∷ [])))),
  (λ are. subst (λ t. AreInside records (patches_made next) × (t ≤ length (records_behind records (patches_made next)))) (sym tail)
      (subst (λ ps. AreInside records ps × (made.tail ≤ length (records_behind records ps))) (λ j. sym done j ++ (sym last j ∷ [])) are)),
)

-- a patch was begun
pub opened : (made next : PatchMaker) → next.done.items ≡ made.done.items ++ (made.last ∷ []) → next.last.kept ≡ made.tail → next.last.replaced ≡ 0 → next.last.rows.items ≡ [] → next.tail ≡ 0 → IsSamePiece made next
unfolding IsSamePiece rows_made records_to_come IsWithin
opened made next done kept replaced rows tail records = (at, left, within)
  where
    at : rows_made records next ≡ rows_made records made
    at = rows_open records next tail
        ∙ (λ j. rows_at records (done j) (kept j) (rows j))
        ∙ ap (λ back. rows_before records (patches_made made) ++ back) (append-nil (seen_rows (take made.tail (records_behind records (patches_made made)))))

    left : records_to_come records next ≡ records_to_come records made
    left = left_open records next tail ∙ (λ j. left_at records (done j) (kept j) (replaced j))

    within : IsWithin records made → IsWithin records next
    within are =
        let fits : next.last.kept + next.last.replaced ≤ length (records_behind records (patches_made made)) = omega (arith, kept, replaced, are.1) in
        open_within records next tail (subst (AreInside records) (sym done) are.0)
        (subst (λ ps. next.last.kept + next.last.replaced ≤ length (records_behind records ps)) (sym done) fits)

-- one record more is in the open patch
pub covered_rows : (records : List RecordData) (made next : PatchMaker) → made.tail ≡ 0 → next.tail ≡ 0 → next.done.items ≡ made.done.items → next.last.kept ≡ made.last.kept → next.last.rows.items ≡ made.last.rows.items
    → rows_made records next ≡ rows_made records made
covered_rows records made next before after done kept rows =
    rows_open records next after ∙ (λ j. rows_at records (done j) (kept j) (rows j)) ∙ sym (rows_open records made before)

pub covered_left : (records : List RecordData) (made next : PatchMaker) → made.tail ≡ 0 → next.tail ≡ 0 → next.done.items ≡ made.done.items → next.last.kept ≡ made.last.kept → next.last.replaced ≡ made.last.replaced + 1
    → records_to_come records next ≡ drop 1 (records_to_come records made)
covered_left records made next before after done kept replaced =
    left_open records next after ∙ (λ j. left_at records (done j) (kept j) (replaced j))
    ∙ sym (drop-drop 1 made.last.replaced (drop made.last.kept (records_behind records made.done.items)))
    ∙ ap (drop 1) (sym (left_open records made before))

pub covered_within : (records : List RecordData) (made next : PatchMaker) → made.tail ≡ 0 → next.tail ≡ 0 → next.done.items ≡ made.done.items → next.last.kept ≡ made.last.kept → next.last.replaced ≡ made.last.replaced + 1
    → IsWithin records made → 1 ≤ length (records_to_come records made) → IsWithin records next
covered_within records made next before after done kept replaced are there =
    let begin = records_behind records made.done.items in
    let parts = within_open records made are in
    let left : 1 ≤ length (drop made.last.replaced (drop made.last.kept begin)) = omega (arith, there, ap length (left_open records made before)) in
    let fits : next.last.kept + next.last.replaced ≤ length begin = omega (arith, kept, replaced, left, length-drop made.last.replaced (drop made.last.kept begin), length-drop made.last.kept begin) in
    open_within records next after (subst (AreInside records) (sym done) parts.0)
    (subst (λ ps. next.last.kept + next.last.replaced ≤ length (records_behind records ps)) (sym done) fits)

-- rows more are in the open patch
pub added_rows : (records : List RecordData) (made next : PatchMaker) (more : List SeenData) → made.tail ≡ 0 → next.tail ≡ 0 → next.done.items ≡ made.done.items → next.last.kept ≡ made.last.kept → next.last.rows.items ≡ made.last.rows.items ++ more
    → rows_made records next ≡ rows_made records made ++ more
added_rows records made next more before after done kept rows =
    let front = rows_before records made.done.items in
    let seen = seen_rows (take made.last.kept (records_behind records made.done.items)) in
    rows_open records next after ∙ (λ j. rows_at records (done j) (kept j) (rows j))
    ∙ sym (append_assoc front (seen ++ made.last.rows.items) more ∙ ap (λ back. front ++ back) (append_assoc seen made.last.rows.items more))
    ∙ ap (λ xs. xs ++ more) (sym (rows_open records made before))

pub added_left : (records : List RecordData) (made next : PatchMaker) → made.tail ≡ 0 → next.tail ≡ 0 → next.done.items ≡ made.done.items → next.last.kept ≡ made.last.kept → next.last.replaced ≡ made.last.replaced
    → records_to_come records next ≡ records_to_come records made
added_left records made next before after done kept replaced =
    left_open records next after ∙ (λ j. left_at records (done j) (kept j) (replaced j)) ∙ sym (left_open records made before)

pub added_within : (records : List RecordData) (made next : PatchMaker) → made.tail ≡ 0 → next.tail ≡ 0 → next.done.items ≡ made.done.items → next.last.kept ≡ made.last.kept → next.last.replaced ≡ made.last.replaced
    → IsWithin records made → IsWithin records next
added_within records made next before after done kept replaced are =
    let parts = within_open records made are in
    let fits : next.last.kept + next.last.replaced ≤ length (records_behind records made.done.items) = omega (arith, kept, replaced, parts.1) in
    open_within records next after (subst (AreInside records) (sym done) parts.0)
    (subst (λ ps. next.last.kept + next.last.replaced ≤ length (records_behind records ps)) (sym done) fits)

-- what is the same whatever the records
pub same_rows : (made next : PatchMaker) → IsSamePiece made next → (records : List RecordData) → rows_made records next ≡ rows_made records made
unfolding IsSamePiece
same_rows made next same records = (same records).0

pub same_left : (made next : PatchMaker) → IsSamePiece made next → (records : List RecordData) → records_to_come records next ≡ records_to_come records made
unfolding IsSamePiece
same_left made next same records = (same records).1

pub same_within : (made next : PatchMaker) → IsSamePiece made next → (records : List RecordData) → IsWithin records made → IsWithin records next
unfolding IsSamePiece
same_within made next same records = (same records).2

-- nothing changed in an open patch
pub same_open : (made next : PatchMaker) → made.tail ≡ 0 → next.tail ≡ 0 → next.done.items ≡ made.done.items → next.last.kept ≡ made.last.kept → next.last.replaced ≡ made.last.replaced → next.last.rows.items ≡ made.last.rows.items → IsSamePiece made next
unfolding IsSamePiece
same_open made next before after done kept replaced rows records = (
  covered_rows records made next before after done kept rows,
  added_left records made next before after done kept replaced,
  added_within records made next before after done kept replaced,
)

-- two steps that change nothing
pub same_both : (made mid next : PatchMaker) → IsSamePiece made mid → IsSamePiece mid next → IsSamePiece made next
unfolding IsSamePiece
same_both made mid next first then records = ((then records).0 ∙ (first records).0, (then records).1 ∙ (first records).1, (λ are. (then records).2 ((first records).2 are)))

-- no record was passed, and no row was added
pub rows_new : (made : PatchMaker) → made.done.items ≡ [] → made.last.kept ≡ 0 → made.last.replaced ≡ 0 → made.last.rows.items ≡ [] → made.tail ≡ 0 → (records : List RecordData) → rows_made records made ≡ []
rows_new made done kept replaced rows tail records = rows_open records made tail ∙ (λ j. rows_at records (done j) (kept j) (rows j))

pub left_new : (made : PatchMaker) → made.done.items ≡ [] → made.last.kept ≡ 0 → made.last.replaced ≡ 0 → made.last.rows.items ≡ [] → made.tail ≡ 0 → (records : List RecordData) → records_to_come records made ≡ records
left_new made done kept replaced rows tail records = left_open records made tail ∙ (λ j. left_at records (done j) (kept j) (replaced j))

pub within_new : (made : PatchMaker) → made.done.items ≡ [] → made.last.kept ≡ 0 → made.last.replaced ≡ 0 → made.last.rows.items ≡ [] → made.tail ≡ 0 → (records : List RecordData) → IsWithin records made
within_new made done kept replaced rows tail records =
    open_within records made tail (subst (AreInside records) (sym done) tt) (omega (arith, kept, replaced))

-- what holds anyway holds after an error
pub on_err : {A E : Type 0} (result : Result A E) (P : Type 0) → P → OnErr result P
on_err (Ok a) P p = tt
on_err (Err e) P p = p
