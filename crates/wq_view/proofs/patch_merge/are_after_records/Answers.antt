-- The first row and the record before the place, or no row.
use Rattle.std.proofs.Common.{◌≡◌, take, subst, sym, ap, ◌∙◌}
use Rattle.std.specs.declared.cmp.Ordering.TheVariants.{Less}
use Rattle.wq_record.specs.Name.{name_cmp}
use Rattle.wq_record.specs.RecordData.{RecordData}
use Rattle.wq_record.specs.Seen.{SeenData, entry_of}
use Rattle.wq_view.specs.Patching.{AreBelow, record_name, row_name}
use Rattle.wq_view.proofs.Apart.{below_none, none_first, start_below}
use Rattle.wq_view.proofs.patch_merge.are_after_records.Goals as goal

pub returns-in-Some : goal.returns-in-Some
returns-in-Some c below =
    let first_name = c.as_slice.ensures ∙ ap (λ (s : SeenData). s.name) c.first-in-Some.view_is in
    let name = c.as_bytes.ensures.value ∙ ap (λ (r : RecordData). r.name) c.last.view_is in
    start_below entry_of c.args.chunks.now c.args.start c.get-last.result.now c.args.rows.now c.in-Some.first.now c.requires.known c.requires.rows c.if-start-eq0.false c.get-last.ensures (sym c.in-Some.ensures.value)
    (subst (λ n. name_cmp n c.in-Some.first.now.name ≡ Less) name (subst (λ n. name_cmp c.as_bytes.result.now n ≡ Less) first_name (c.is_below.ensures below)))

pub returns-in-None : goal.returns-in-None
returns-in-None c _ = subst (AreBelow record_name row_name (take c.args.start c.args.chunks.now)) (sym (none_first c.args.rows.now (sym c.in-None.ensures.value))) (below_none record_name row_name (take c.args.start c.args.chunks.now))
