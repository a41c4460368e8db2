-- Patches of which those that change nothing are left out.
use Rattle.std.proofs.Common.{◌≡◌, ◌+◌, ℕ, List, [], ◌∷◌, ◌++◌, take, drop, append_assoc, refl, ap, sym, ◌∙◌}
use Rattle.std.proofs.lemmas.List.{drop-drop, take-append-drop}
use Rattle.wq_record.specs.RecordData.{RecordData}
use Rattle.wq_record.specs.Seen.{SeenData}
use Rattle.wq_view.specs.SeenRows.{seen_rows}
use Rattle.wq_patch.specs.PatchMaker.{records_behind, rows_before}
use Rattle.wq_view.specs.Patch.{patched}
use Rattle.wq_view.specs.declared.patch.Patch.{Patch}
use Rattle.wq_patch.proofs.Joining.{patched_parts}
use Rattle.wq_patch.proofs.PatchRuns.{after_more, rows_more}
use Rattle.wq_view.proofs.SeenAgain.{seen-append, seen_later}

-- the rows of patches, if so many records more are kept before the first one
abbrev pub carried : ℕ → List RecordData → List Patch → List SeenData
carried kept records ps = seen_rows (take kept records) ++ patched (drop kept records) ps

-- a patch that changes nothing keeps its records for the next one
pub plain_carried : (records : List RecordData) (kept : ℕ) (p : Patch) (ps : List Patch) → p.replaced ≡ 0 → p.rows.items ≡ [] → carried (kept + p.kept) records ps ≡ carried kept records (p ∷ ps)
plain_carried records kept p ps replaced rows =
    let front = seen_rows (take kept records) in
    let more = seen_rows (take p.kept (drop kept records)) in
    (λ j. seen_later records kept p.kept j ++ patched (sym (drop-drop p.kept kept records) j) ps)
    ∙ append_assoc front more (patched (drop p.kept (drop kept records)) ps)
    ∙ (λ j. front ++ (more ++ (sym rows j ++ patched (drop (sym replaced j) (drop p.kept (drop kept records))) ps)))

-- a patch that changes something, with the records that were kept before it
pub changed_carried : (records : List RecordData) (fewer : List Patch) (kept : ℕ) (p q : Patch) (ps : List Patch) → q.kept ≡ kept + p.kept → q.replaced ≡ p.replaced → q.rows.items ≡ p.rows.items
    → rows_before records (fewer ++ (q ∷ [])) ++ carried 0 (records_behind records (fewer ++ (q ∷ []))) ps ≡ rows_before records fewer ++ carried kept (records_behind records fewer) (p ∷ ps)
changed_carried records fewer kept p q ps keeps replaces rows =
    let left = records_behind records fewer in
    let before = rows_before records fewer in
    let front = seen_rows (take kept left) in
    let more = seen_rows (take p.kept (drop kept left)) in
    let back = patched (drop p.replaced (drop p.kept (drop kept left))) ps in
    (λ j. rows_more records fewer q j ++ patched (after_more records fewer q j) ps)
    ∙ (λ j. (before ++ (seen_rows (take (keeps j) left) ++ rows j)) ++ patched (drop (replaces j) (drop (keeps j) left)) ps)
    ∙ (λ j. (before ++ (seen_later left kept p.kept j ++ p.rows.items)) ++ patched (drop p.replaced (sym (drop-drop p.kept kept left) j)) ps)
    ∙ append_assoc before ((front ++ more) ++ p.rows.items) back
    ∙ ap (λ rs. before ++ rs) (append_assoc (front ++ more) p.rows.items back ∙ append_assoc front more (p.rows.items ++ back))

-- no patch is left
pub ended : (records : List RecordData) (fewer : List Patch) (kept : ℕ) → patched records fewer ≡ rows_before records fewer ++ carried kept (records_behind records fewer) []
ended records fewer kept =
    let left = records_behind records fewer in
    patched_parts records fewer
    ∙ ap (λ rs. rows_before records fewer ++ rs) (ap seen_rows (sym (take-append-drop kept left)) ∙ seen-append (take kept left) (drop kept left))
