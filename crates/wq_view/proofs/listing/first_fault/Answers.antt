-- The rows before are lawful, and this one is not.
use Rattle.std.proofs.Common.{◌≡◌, true, false, refl, ap, sym, ◌∙◌}
use Rattle.wq_record.specs.Name.{is_valid_name}
use Rattle.wq_record.specs.Seen.{SeenData}
use Rattle.wq_view.proofs.Faults.{fault_at_unlawful}
use Rattle.wq_view.proofs.listing.first_fault.Goals as goal

pub returns-then-not-sort_by_name : goal.returns-then-not-sort_by_name
returns-then-not-sort_by_name c =
    fault_at_unlawful c.args.rows.now c.args.at c.index-rows-at.result _ c.requires.before c.requires.bound c.index-rows-at.is c.requires.here c.sort_by_name.ensures.distinct
    ∙ rw c.if-not-sort_by_name.true refl

pub returns-then-has_bad_name : goal.returns-then-has_bad_name
returns-then-has_bad_name c =
    let named = c.as_slice.ensures ∙ ap (λ (row : SeenData). row.name) (c.row.view_is ∙ sym c.index-rows-at.is) in
    let bad : is_valid_name c.index-rows-at.result.name ≡ false = ap is_valid_name (sym named) ∙ sym c.is_valid_name-has_bad_name.ensures ∙ c.if-has_bad_name.true in
    fault_at_unlawful c.args.rows.now c.args.at c.index-rows-at.result _ c.requires.before c.requires.bound c.index-rows-at.is c.requires.here c.sort_by_name.ensures.distinct
    ∙ rw (c.if-not-sort_by_name.false, bad) refl

pub returns-else-has_bad_name : goal.returns-else-has_bad_name
returns-else-has_bad_name c =
    let named = c.as_slice.ensures ∙ ap (λ (row : SeenData). row.name) (c.row.view_is ∙ sym c.index-rows-at.is) in
    let good : is_valid_name c.index-rows-at.result.name ≡ true = ap is_valid_name (sym named) ∙ sym c.is_valid_name-has_bad_name.ensures ∙ c.if-has_bad_name.false in
    fault_at_unlawful c.args.rows.now c.args.at c.index-rows-at.result _ c.requires.before c.requires.bound c.index-rows-at.is c.requires.here c.sort_by_name.ensures.distinct
    ∙ rw (c.if-not-sort_by_name.false, good) refl
