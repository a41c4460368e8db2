-- The bytes are those that are kept.
use Rattle.std.proofs.Common.{◌++◌, codes, ap, sym, ◌∙◌}
use Rattle.wq_reply.specs.Long.{close_text}
use Rattle.wq_reply.proofs.Longs.{close_fresh, close_other}
use Rattle.wq_reply.proofs.long.close_of.Goals as goal

pub returns-then-fresh : goal.returns-then-fresh
returns-then-fresh c = close_fresh ∙ ap (λ b. close_text b ++ codes "\n") (sym c.if-fresh.true)

pub returns-else-fresh : goal.returns-else-fresh
returns-else-fresh c = close_other ∙ ap (λ b. close_text b ++ codes "\n") (sym c.if-fresh.false)
