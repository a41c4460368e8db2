-- A sort leaves no name after one that it is below.
use Rattle.std.proofs.Common.{rules}
use Rattle.std.specs.Ordering.{is_lt}
use Rattle.std.proofs.lemmas.Cmp.{nat_list_cmp_total}
use Rattle.std.proofs.lemmas.List.Sorted.{answers_always, ranks_by}
use Rattle.wq_record.specs.Name.{name_cmp}
use Rattle.wq_patch.proofs.recent.Recent.of.Goals as goal

pub invariant_of-result : goal.invariant_of-result
invariant_of-result c =
    c.sort_unstable_by.ensures.sorted (λ s t. is_lt (name_cmp s.now t.now)) (ranks_by nat_list_cmp_total (λ t. t.now)) (answers_always _ _ _ (λ f a r g called. search rules))
