-- A search by the folded order finds a suffix exactly if it is among the texts.
use Rattle.std.proofs.Common.{rules, map, length, sym, ap, subst, ◌∙◌}
use Rattle.std.specs.List.Sorted.{IsSortedBy}
use Rattle.std.specs.Ordering.{is_lt}
use Rattle.std.proofs.lemmas.Bool.{eq-eqb, eqb-true, false≢true}
use Rattle.std.proofs.lemmas.Fn.{always_returns_same}
use Rattle.wq_base.specs.Compare.{folded_order}
use Rattle.wq_view.specs.Suffix.{is_one_of}
use Rattle.wq_view.proofs.AmongSuffixes.{found_among, none_among}
use Rattle.wq_view.proofs.suffixes.Suffixes.has.Goals as goal

pub returns-then-is_empty : goal.returns-then-is_empty
returns-then-is_empty c = none_among c.args.self.now c.args.suffix.now (eqb-true (length c.args.suffix.now) 0 (sym c.is_empty.ensures ∙ c.if-is_empty.true))

pub returns : goal.returns
returns c =
    c.is_ok.ensures.value
    ∙ found_among (λ t. t.now) c.deref.result.now (subst (IsSortedBy (λ t u. is_lt (folded_order t.now u.now))) (sym c.deref.ensures.value) c.self.invariant) c.args.suffix.now c.binary_search_by-at.result (λ e. false≢true (sym c.if-is_empty.false ∙ c.is_empty.ensures ∙ eq-eqb (length c.args.suffix.now) 0 e)) c.binary_search_by-at.ensures.bound (c.binary_search_by-at.ensures.position (λ t. folded_order t.now c.args.suffix.now) (always_returns_same _ _ _ (λ a r g called. search rules)))
    ∙ ap (λ l. is_one_of (map (λ t. t.now) l) c.args.suffix.now) c.deref.ensures.value
    ∙ ap (λ l. is_one_of l c.args.suffix.now) c.self.view_is
