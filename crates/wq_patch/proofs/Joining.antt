-- The patches of pieces of a view, one piece after the other.
use Rattle.std.proofs.Common.{◌≡◌, ◌+◌, ◌≤◌, ℕ, List, [], ◌∷◌, ◌++◌, Result, Ok, Err, IfOk, take, drop, length, length-append, append_assoc, refl, ap, sym, subst, ◌∙◌, arith}
use Rattle.std.proofs.lemmas.List.{drop-append-le, drop_all, length-drop, take-append-drop, take-append-le, take_all}
use Rattle.wq_record.specs.RecordData.{RecordData}
use Rattle.wq_record.specs.Seen.{SeenData}
use Rattle.wq_view.specs.SeenRows.{seen_rows}
use Rattle.wq_patch.specs.PatchMaker.{AreInside, IsJoined, IsJoinedTo, IsPut, IsWithin, patches_made, records_behind, records_to_come, rows_before, rows_made}
use Rattle.wq_view.specs.Patch.{patched}
use Rattle.wq_patch.specs.declared.patch_maker.PatchMaker.{PatchMaker}
use Rattle.wq_view.specs.declared.patch.Patch.{Patch}
use Rattle.wq_patch.proofs.PatchRuns.{regroup}

-- patches after patches
append_rows : (records : List RecordData) (ps qs : List Patch) → rows_before records (ps ++ qs) ≡ rows_before records ps ++ rows_before (records_behind records ps) qs
append_rows records [] qs = refl
append_rows records (p ∷ ps) qs =
    let later = drop p.replaced (drop p.kept records) in
    ap (λ rows. seen_rows (take p.kept records) ++ (p.rows.items ++ rows)) (append_rows later ps qs)
    ∙ regroup (seen_rows (take p.kept records)) p.rows.items (rows_before later ps) (rows_before (records_behind later ps) qs)

append_after : (records : List RecordData) (ps qs : List Patch) → records_behind records (ps ++ qs) ≡ records_behind (records_behind records ps) qs
append_after records [] qs = refl
append_after records (p ∷ ps) qs = append_after (drop p.replaced (drop p.kept records)) ps qs

append_within : (records : List RecordData) (ps qs : List Patch) → AreInside records ps → AreInside (records_behind records ps) qs → AreInside records (ps ++ qs)
append_within records [] qs first then = then
append_within records (p ∷ ps) qs first then = (first.0, append_within (drop p.replaced (drop p.kept records)) ps qs first.1 then)

-- records behind those of the patches
shift : (records more : List RecordData) (kept replaced : ℕ) → kept + replaced ≤ length records → drop replaced (drop kept (records ++ more)) ≡ drop replaced (drop kept records) ++ more
shift records more kept replaced fits =
    ap (drop replaced) (drop-append-le kept records more (omega (arith, fits)))
    ∙ drop-append-le replaced (drop kept records) more (omega (arith, fits, length-drop kept records))

more_after : (records more : List RecordData) (ps : List Patch) → AreInside records ps → records_behind (records ++ more) ps ≡ records_behind records ps ++ more
more_after records more [] are = refl
more_after records more (p ∷ ps) are =
    ap (λ rs. records_behind rs ps) (shift records more p.kept p.replaced are.0)
    ∙ more_after (drop p.replaced (drop p.kept records)) more ps are.1

more_rows : (records more : List RecordData) (ps : List Patch) → AreInside records ps → rows_before (records ++ more) ps ≡ rows_before records ps
more_rows records more [] are = refl
more_rows records more (p ∷ ps) are =
    let kept = take-append-le p.kept records more (omega (arith, are.0)) in
    let later = shift records more p.kept p.replaced are.0 in
    (λ j. seen_rows (kept j) ++ (p.rows.items ++ rows_before (later j) ps))
    ∙ ap (λ rows. seen_rows (take p.kept records) ++ (p.rows.items ++ rows)) (more_rows (drop p.replaced (drop p.kept records)) more ps are.1)

more_within : (records more : List RecordData) (ps : List Patch) → AreInside records ps → AreInside (records ++ more) ps
more_within records more [] are = tt
more_within records more (p ∷ ps) are = (
  omega (arith, are.0, length-append records more),
  subst (λ rs. AreInside rs ps) (sym (shift records more p.kept p.replaced are.0)) (more_within (drop p.replaced (drop p.kept records)) more ps are.1),
)

-- patched records are the rows before the end of the last patch, and those after it
pub patched_parts : (records : List RecordData) (ps : List Patch) → patched records ps ≡ rows_before records ps ++ seen_rows (records_behind records ps)
patched_parts records [] = refl
patched_parts records (p ∷ ps) =
    let later = drop p.replaced (drop p.kept records) in
    ap (λ rows. seen_rows (take p.kept records) ++ (p.rows.items ++ rows)) (patched_parts later ps)
    ∙ regroup (seen_rows (take p.kept records)) p.rows.items (rows_before later ps) (seen_rows (records_behind later ps))

regroup_four : {X : Type 0} (b x m y : List X) → (b ++ (x ++ m)) ++ y ≡ (b ++ x) ++ (m ++ y)
regroup_four b x m y = ap (λ front. front ++ y) (sym (append_assoc b x m)) ∙ append_assoc (b ++ x) m y

-- the patches of a piece of which no record is left were put after those of the records before it
put_joined : (records first : List RecordData) (before after : List Patch) (made : PatchMaker) (kept tail : ℕ) → IsPut kept (patches_made made) before after
    → IsWithin records made → records_to_come records made ≡ [] → tail ≡ made.tail → IsJoined first before kept
    → IsJoined (first ++ records) after tail × (patched (first ++ records) after ≡ patched first before ++ rows_made records made)
unfolding IsWithin records_to_come rows_made
put_joined records first before after made kept tail (p, keeps, none, empty, is) within come tails joined = ((are, count), rows)
  where
    all : List RecordData
    all = first ++ records

    back : List RecordData
    back = records_behind first before

    at : records_behind (first ++ records) before ≡ records_behind first before ++ records
    at = more_after first records before joined.0

    kept_is : take p.kept (records_behind (first ++ records) before) ≡ records_behind first before
    kept_is =
        ap (take p.kept) at ∙ take-append-le p.kept (records_behind first before) records (omega (arith, keeps, joined.1))
        ∙ take_all p.kept (records_behind first before) (omega (arith, keeps, joined.1))

    left : drop p.replaced (drop p.kept (records_behind (first ++ records) before)) ≡ records
    left =
        (λ j. drop (none j) (drop p.kept (at j)))
        ∙ drop-append-le p.kept (records_behind first before) records (omega (arith, keeps, joined.1))
        ∙ ap (λ rs. rs ++ records) (drop_all p.kept (records_behind first before) (omega (arith, keeps, joined.1)))

    front : rows_before (first ++ records) after ≡ rows_before first before ++ (seen_rows (records_behind first before) ++ rows_before records (patches_made made))
    front =
        ap (rows_before (first ++ records)) is ∙ append_rows (first ++ records) before (p ∷ patches_made made)
        ∙ (λ j. more_rows first records before joined.0 j ++ (seen_rows (kept_is j) ++ (empty j ++ rows_before (left j) (patches_made made))))

    rest : records_behind (first ++ records) after ≡ records_behind records (patches_made made)
    rest =
        ap (records_behind (first ++ records)) is ∙ append_after (first ++ records) before (p ∷ patches_made made)
        ∙ ap (λ rs. records_behind rs (patches_made made)) left

    fits : p.kept + p.replaced ≤ length (records_behind (first ++ records) before)
    fits = omega (arith, keeps, none, joined.1, ap length at, length-append (records_behind first before) records)

    are : AreInside (first ++ records) after
    are = subst (AreInside (first ++ records)) (sym is)
        (append_within (first ++ records) before (p ∷ patches_made made) (more_within first records before joined.0)
        (fits, subst (λ rs. AreInside rs (patches_made made)) (sym left) within.0))

    count : tail ≡ length (records_behind (first ++ records) after)
    count = omega (arith, within.1, tails, ap length come, length-drop made.tail (records_behind records (patches_made made)), ap length rest)

    full : take made.tail (records_behind records (patches_made made)) ≡ records_behind records (patches_made made)
    full = take_all made.tail (records_behind records (patches_made made)) (omega (arith, within.1, ap length come, length-drop made.tail (records_behind records (patches_made made))))

    rows : patched (first ++ records) after ≡ patched first before ++ (rows_before records (patches_made made) ++ seen_rows (take made.tail (records_behind records (patches_made made))))
    rows =
        patched_parts (first ++ records) after
        ∙ (λ j. front j ++ seen_rows (rest j))
        ∙ regroup_four (rows_before first before) (seen_rows (records_behind first before)) (rows_before records (patches_made made)) (seen_rows (records_behind records (patches_made made)))
        ∙ (λ j. sym (patched_parts first before) j ++ (rows_before records (patches_made made) ++ seen_rows (sym full j)))

pub joined_to : {E : Type 0} (result : Result ℕ E) (records all : List RecordData) (found : List SeenData) (before after : List Patch) (made : PatchMaker) (kept : ℕ) → records ≡ all → found ≡ rows_made all made
    → IfOk result (λ tail. tail ≡ made.tail) → IfOk result (λ _. IsPut kept (patches_made made) before after) → IsWithin all made → records_to_come all made ≡ []
    → IfOk result (IsJoinedTo records found kept before after)
unfolding IsJoinedTo
joined_to (Err e) records all found before after made kept here rows tails put within come = tt
joined_to (Ok tail) records all found before after made kept here rows tails put within come = λ first joined. (
    let all_of = put_joined all first before after made kept tail put within come tails joined in
    subst (λ rs. IsJoined (first ++ rs) after tail × (patched (first ++ rs) after ≡ patched first before ++ found)) (sym here)
    (all_of.0, all_of.1 ∙ ap (λ rs. patched first before ++ rs) (sym rows)))

-- the rows of a piece, from its patches
pub rows_put : (all : List RecordData) (count : ℕ) (made : PatchMaker) (patches : List Patch) → IsPut 0 (patches_made made) [] patches → IsWithin (take count all) made
    → rows_before all patches ++ seen_rows (take made.tail (records_behind all patches)) ≡ rows_made (take count all) made
unfolding IsWithin rows_made
rows_put all count made patches (p, keeps, none, empty, is) within =
    let records = take count all in
    let ms = patches_made made in
    let split : all ≡ records ++ drop count all = sym (take-append-drop count all) in
    let left : drop p.replaced (drop p.kept all) ≡ all = λ j. drop (none j) (drop (keeps j) all) in
    let back : records_behind all ms ≡ records_behind records ms ++ drop count all = ap (λ rs. records_behind rs ms) split ∙ more_after records (drop count all) ms within.0 in
    (λ j. rows_before all (is j) ++ seen_rows (take made.tail (records_behind all (is j))))
    ∙ (λ j. (seen_rows (take (keeps j) all) ++ (empty j ++ rows_before (left j) ms)) ++ seen_rows (take made.tail (records_behind (left j) ms)))
    ∙ (λ j. (ap (λ rs. rows_before rs ms) split ∙ more_rows records (drop count all) ms within.0) j
    ++ seen_rows ((ap (take made.tail) back ∙ take-append-le made.tail (records_behind records ms) (drop count all) within.1) j))
