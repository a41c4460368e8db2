-- The right list is empty.
use Rattle.std.proofs.Common.{sym, ◌∙◌}
use Rattle.std.proofs.lemmas.Bool.{eqb-true}
use Rattle.wq_gen.proofs.Unions.{union_empty}
use Rattle.wq_gen.proofs.position.union.Goals as goal

pub returns-then-is_empty-2 : goal.returns-then-is_empty-2
returns-then-is_empty-2 c =
    union_empty c.args.left.items c.args.right.items (sym c.args.right.ok.0 ∙ eqb-true c.args.right.len 0 (sym c.is_empty-2.ensures ∙ c.if-is_empty-2.true))
