-- A program that answers the text of its key stands for it.
use Rattle.std.proofs.Common.{sym, subst}
use Rattle.wq_code.specs.declared.raw.Raw.{Raw}
use Rattle.wq_term.specs.Expr.{term_of}
use Rattle.wq_registry.specs.Kept.{StandsFor}
use Rattle.wq_registry.proofs.Keeping.{stands_for}
use Rattle.wq_registry.proofs.cache.Compiled.new.Goals as goal

pub invariant_of-result : goal.invariant_of-result
invariant_of-result c =
    subst (λ (raw : Raw). StandsFor c.args.key.instance c.args.key.text raw) (sym c.in-Ok.ensures)
    (stands_for c.args.key (term_of c.args.expr.now) c.args.program.now.value c.requires.says c.requires.meaning c.requires.small c.requires.cost)
