-- The closure compares the names of two rows.
use Rattle.std.proofs.Common.{rules}
use Rattle.std.proofs.lemmas.List.Sorted.{answers_always}
use Rattle.wq_view.proofs.Sorting.{is_below, sorted_from_look}
use Rattle.wq_view.proofs.listing.names_rise.Goals as goal

pub returns : goal.returns
returns c = sorted_from_look c.args.rows.now _ (c.is_sorted_by.ensures.cases is_below (answers_always _ _ _ (λ f a r g called. search rules)))
