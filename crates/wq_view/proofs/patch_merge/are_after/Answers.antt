-- The last of the earlier rows and the first of those after them, or none.
use Rattle.std.proofs.Common.{subst, sym, ap, ◌≡◌, ◌∙◌}
use Rattle.std.specs.declared.cmp.Ordering.TheVariants.{Less}
use Rattle.wq_record.specs.Name.{name_cmp}
use Rattle.wq_record.specs.Seen.{SeenData, entry_of}
use Rattle.wq_view.specs.Patching.{AreBelow, row_name}
use Rattle.wq_view.proofs.Apart.{below_none, ended_so, none_first, none_last, under}
use Rattle.wq_view.proofs.patch_merge.are_after.Goals as goal

pub returns-in-Some-first : goal.returns-in-Some-first
returns-in-Some-first c below =
    let last = c.in-Some.last.now in
    let first = c.in-Some-first.first.now in
    let rows = c.args.rows.now in
    let last_name = c.as_slice.ensures ∙ ap (λ (s : SeenData). s.name) c.last-in-Some.view_is in
    let first_name = c.as_slice-in-Some-first.ensures ∙ ap (λ (s : SeenData). s.name) c.first-in-Some-first.view_is in
    ended_so entry_of row_name c.args.earlier.now last rows c.requires.earlier (sym c.in-Some.ensures.value)
    (under entry_of last.name rows first c.requires.rows (sym c.in-Some-first.ensures.value)
    (subst (λ n. name_cmp n first.name ≡ Less) last_name (subst (λ n. name_cmp c.as_slice.result.now n ≡ Less) first_name (c.is_below.ensures below))))

pub returns-in-None-first : goal.returns-in-None-first
returns-in-None-first c _ = subst (AreBelow row_name row_name c.args.earlier.now) (sym (none_first c.args.rows.now (sym c.in-None-first.ensures.value))) (below_none row_name row_name c.args.earlier.now)

pub returns-in-None : goal.returns-in-None
returns-in-None c _ = subst (λ l. AreBelow row_name row_name l c.args.rows.now) (sym (none_last c.args.earlier.now (sym c.in-None.ensures.value))) tt
