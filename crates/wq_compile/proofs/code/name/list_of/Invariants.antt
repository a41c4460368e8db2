-- the list so far, and the texts that are left, are the whole
use Rattle.std.proofs.Common.{◌≡◌, ◌++◌, drop}
use Rattle.wq_term.specs.Expr.{texts_in}
use Rattle.wq_compile.proofs.code.name.list_of.Given as goal

abbrev pub invariant-loop-text : goal.invariant-loop-text
invariant-loop-text l = l.table ++ texts_in (drop l.text-index l.texts) ≡ texts_in l.texts
