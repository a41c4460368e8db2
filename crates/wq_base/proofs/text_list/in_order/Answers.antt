-- A sort keeps the places and their keys, and puts none after one that comes later.
use Rattle.std.proofs.Common.{rules, ◌≡◌, map, subst}
use Rattle.std.specs.List.Sorted.{IsPermutation}
use Rattle.std.specs.Ordering.{is_lt}
use Rattle.std.proofs.lemmas.Fn.{always_returns_same}
use Rattle.std.proofs.lemmas.List.Sorted.{All-permutation, IsPermutation-map, ranks_by}
use Rattle.wq_base.specs.TextList.{place_order, text_at, text_key}
use Rattle.wq_base.proofs.TextOrder.{places_total}
use Rattle.wq_base.proofs.text_list.in_order.Goals as goal

pub returns : goal.returns
returns c =
    let old = c.in_ok-order.order.items in
    let new = c.sort_unstable_by.new.self.items in
    let same = c.sort_unstable_by.ensures.permutation in (
      subst (λ l. IsPermutation l (map (λ p. p.place) new)) c.in_ok-order.ensures.all (IsPermutation-map (λ p. p.place) old new same),
      All-permutation (λ p. p.key ≡ text_key (text_at c.args.texts.now p.place)) old new same c.in_ok-order.ensures.keys,
      c.sort_unstable_by.ensures.sorted (λ a b. is_lt (place_order c.args.texts.now a b))
          (ranks_by places_total (λ p. (p.key, text_at c.args.texts.now p.place))) (always_returns_same _ _ _ (λ a r g called. search rules)),
    )
