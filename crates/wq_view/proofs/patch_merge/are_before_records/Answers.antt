-- The last row and the record at the place.
use Rattle.std.proofs.Common.{◌≡◌, subst, sym, ap, ◌∙◌}
use Rattle.std.specs.declared.cmp.Ordering.TheVariants.{Less}
use Rattle.wq_record.specs.Name.{name_cmp}
use Rattle.wq_record.specs.RecordData.{RecordData}
use Rattle.wq_record.specs.Seen.{SeenData, entry_of}
use Rattle.wq_view.proofs.Apart.{below_rest}
use Rattle.wq_view.proofs.patch_merge.are_before_records.Goals as goal

pub returns-in-Some : goal.returns-in-Some
returns-in-Some c below =
    let last_name = c.as_slice.ensures ∙ ap (λ (s : SeenData). s.name) c.last-in-Some.view_is in
    let name = c.as_bytes.ensures.value ∙ ap (λ (r : RecordData). r.name) c.first.view_is in
    below_rest entry_of c.args.rows.now c.args.chunks.now c.args.end c.in-Some.last.now c.get-first.result.now c.requires.rows c.requires.known (sym c.in-Some.ensures.value) c.get-first.ensures
    (subst (λ n. name_cmp n c.get-first.result.now.name ≡ Less) last_name (subst (λ n. name_cmp c.as_slice.result.now n ≡ Less) name (c.is_below.ensures below)))
