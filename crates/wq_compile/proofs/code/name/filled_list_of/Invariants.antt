-- the list so far, and the texts that are left and not empty, are the whole
use Rattle.std.proofs.Common.{◌≡◌, ◌++◌, drop}
use Rattle.wq_term.specs.Expr.{texts_in}
use Rattle.wq_compile.specs.Code.{filled}
use Rattle.wq_compile.proofs.code.name.filled_list_of.Given as goal

abbrev pub invariant-loop-text : goal.invariant-loop-text
invariant-loop-text l =
    l.table ++ filled (texts_in (drop l.text-index l.texts)) ≡ filled (texts_in l.texts)
