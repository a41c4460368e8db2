-- the count so far, and the texts that are left and not empty, are the whole
use Rattle.std.proofs.Common.{◌≡◌, ◌≤◌, ◌+◌, length, drop}
use Rattle.wq_term.specs.Expr.{texts_in}
use Rattle.wq_compile.specs.Code.{filled}
use Rattle.wq_compile.proofs.large.filled_count.Given as goal

abbrev pub invariant-loop-text : goal.invariant-loop-text
invariant-loop-text l =
    (l.count ≤ l.text-index)
    × (l.count + length (filled (texts_in (drop l.text-index l.texts))) ≡ length (filled (texts_in l.texts)))
