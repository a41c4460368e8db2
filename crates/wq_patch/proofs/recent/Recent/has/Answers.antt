-- A search finds a name exactly if it is one of the names.
use Rattle.std.proofs.Common.{rules, map, ap, subst, sym, ◌∙◌}
use Rattle.std.specs.List.Sorted.{IsSortedBy}
use Rattle.std.specs.Ordering.{is_lt}
use Rattle.std.proofs.lemmas.Fn.{always_returns_same}
use Rattle.wq_record.specs.Name.{name_cmp}
use Rattle.wq_patch.specs.Recent.{is_one_of_names}
use Rattle.wq_patch.proofs.AmongNames.{found_among}
use Rattle.wq_patch.proofs.recent.Recent.has.Goals as goal

pub returns : goal.returns
returns c =
    c.is_ok.ensures.value
    ∙ found_among (λ t. t.now) c.deref.result.now (subst (IsSortedBy (λ t u. is_lt (name_cmp t.now u.now))) (sym c.deref.ensures.value) c.self.invariant) c.args.name.now c.binary_search_by-at.result c.binary_search_by-at.ensures.bound (c.binary_search_by-at.ensures.position (λ t. name_cmp t.now c.args.name.now) (always_returns_same _ _ _ (λ a r g called. search rules)))
    ∙ ap (λ l. is_one_of_names (map (λ t. t.now) l) c.args.name.now) c.deref.ensures.value
    ∙ ap (λ l. is_one_of_names l c.args.name.now) c.self.view_is
