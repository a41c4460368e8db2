-- The closure compares names, so a sort leaves no row above the next.
use Rattle.std.proofs.Common.{rules, sym, inl, inr, ◌∙◌}
use Rattle.std.proofs.lemmas.Cmp.{nat_list_cmp_total}
use Rattle.std.proofs.lemmas.List.Sorted.{answers_always, ranks_by, IsPermutation-refl}
use Rattle.std.specs.List.Sorted.{IsSortedBy}
use Rattle.wq_record.specs.Seen.{SeenData}
use Rattle.wq_view.proofs.Sorting.{is_below, sorted_tells}
use Rattle.wq_view.proofs.listing.sort_by_name.Goals as goal

pub returns-then-names_rise-clause-distinct : goal.returns-then-names_rise-clause-distinct
returns-then-names_rise-clause-distinct c =
    let rises = sym c.if-names_rise.true ∙ c.names_rise.ensures in
    sorted_tells c.args.rows.now c.args.rows.now _ (IsPermutation-refl _) (inl (sym rises)) rises

pub returns-clause-distinct : goal.returns-clause-distinct
returns-clause-distinct c =
    let weak : IsSortedBy is_below c.sort_unstable_by.new.self = c.sort_unstable_by.ensures.sorted is_below (ranks_by nat_list_cmp_total (λ (row : SeenData). row.name)) (answers_always _ _ _ (λ f a r g called. search rules)) in
    sorted_tells c.args.rows.now c.sort_unstable_by.new.self _ c.sort_unstable_by.ensures.permutation (inr weak) c.names_rise-2.ensures
