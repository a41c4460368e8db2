-- The places of the list come first, and then those of the numbers outside.
use Rattle.std.proofs.Common.{◌-◌, Some, length, sym, ap, ◌∙◌, arith}
use Rattle.wq_view.specs.Order.{OrderParts, nth_outside}
use Rattle.wq_view.proofs.LaterOrder.{read_outside, read_none}
use Rattle.wq_view.proofs.order.Order.get.Goals as goal

pub returns-then-place-saturating_sub : goal.returns-then-place-saturating_sub
returns-then-place-saturating_sub c =
    let later = ap length (c.items-later.ensures ∙ ap (λ (o : OrderParts). o.later) c.self.view_is) in
    let rising = ap length (c.items-rising.ensures ∙ ap (λ (o : OrderParts). o.rising) c.self.view_is) in
    let count = ap (λ (o : OrderParts). o.count) c.self.view_is in
    sym (read_none c.args.self.now c.args.k (omega (arith, later, c.if-k-later.false)) (omega (arith, later, rising, count, c.saturating_sub.ensures, c.if-place-saturating_sub.true)))

pub returns : goal.returns
returns c =
    let later = c.items-later.ensures ∙ ap (λ (o : OrderParts). o.later) c.self.view_is in
    let rising = c.items-rising.ensures ∙ ap (λ (o : OrderParts). o.rising) c.self.view_is in
    let count = ap (λ (o : OrderParts). o.count) c.self.view_is in
    ap Some (c.nth_outside.ensures ∙ ap (λ l. nth_outside l (c.args.k - length c.items-later.result.now)) rising ∙ ap (λ l. nth_outside c.args.self.now.rising (c.args.k - length l)) later)
    ∙ sym (read_outside c.args.self.now c.args.k (omega (arith, ap length later, c.if-k-later.false)) (omega (arith, ap length later, ap length rising, count, c.saturating_sub.ensures, c.if-place-saturating_sub.false)))
