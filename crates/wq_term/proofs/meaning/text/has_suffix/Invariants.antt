-- the rest decides
use Rattle.std.proofs.Common.{◌≡◌, drop}
use Rattle.wq_term.specs.Expr.{texts_in}
use Rattle.wq_term.specs.Text.{has_suffix}
use Rattle.wq_term.proofs.meaning.text.has_suffix.Given as goal

abbrev pub invariant-loop-text : goal.invariant-loop-text
invariant-loop-text l = has_suffix (texts_in (drop l.text-index l.texts)) l.file.name ≡ has_suffix (texts_in l.texts) l.file.name
