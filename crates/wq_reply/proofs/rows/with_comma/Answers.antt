-- The first bracket becomes a comma.
use Rattle.std.proofs.Common.{◌-◌, length, take, ap, arith, ◌∙◌}
use Rattle.std.proofs.Math.ListN.{set}
use Rattle.wq_reply.proofs.RowTexts.{comma-first}
use Rattle.wq_reply.proofs.rows.with_comma.Goals as goal

pub returns-then-not-is_empty : goal.returns-then-not-is_empty
returns-then-not-is_empty c d ds is =
    let rest = c.pop.ensures.rest ∙ ap (λ n. take (n - 1) c.args.list.items) c.args.list.ok.0 in
    ap (λ l. set l 0 44) (comma-first c.args.list.items c.pop.new.self.items d ds rest is)

pub returns-else-not-is_empty : goal.returns-else-not-is_empty
returns-else-not-is_empty c d ds is =
    let rest = c.pop.ensures.rest ∙ ap (λ n. take (n - 1) c.args.list.items) c.args.list.ok.0 in
    let some = ap length (comma-first c.args.list.items c.pop.new.self.items d ds rest is) in
    absurd (grind (arith, c.is_empty.ensures, c.if-not-is_empty.false, c.pop.new.self.ok.0, some))
