-- A search finds a text exactly if it is one of the texts.
use Rattle.std.proofs.Common.{rules, ◌∙◌}
use Rattle.std.specs.Ordering.{nat_cmp, ordering_then}
use Rattle.std.proofs.lemmas.Fn.{always_returns_same}
use Rattle.wq_base.specs.TextList.{text_at, text_key, twofold_order}
use Rattle.wq_base.proofs.TextOrder.{found_exact}
use Rattle.wq_base.proofs.text_list.has_exact.Goals as goal

pub returns : goal.returns
returns c =
    c.is_ok.ensures.value ∙ found_exact c.args.texts.now c.args.order.now c.requires c.args.text.now c.binary_search_by-at.result c.binary_search_by-at.ensures.bound (c.binary_search_by-at.ensures.position (λ p. ordering_then (nat_cmp p.key (text_key c.args.text.now)) (twofold_order (text_at c.args.texts.now p.place) c.args.text.now)) (always_returns_same _ _ _ (λ a r g called. search rules)))
