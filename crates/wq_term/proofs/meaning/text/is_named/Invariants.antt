-- the rest decides
use Rattle.std.proofs.Common.{◌≡◌, drop}
use Rattle.wq_term.specs.Expr.{texts_in}
use Rattle.wq_term.specs.Text.{is_named}
use Rattle.wq_term.proofs.meaning.text.is_named.Given as goal

abbrev pub invariant-loop-text : goal.invariant-loop-text
invariant-loop-text l = is_named l.case l.fn.scope (texts_in (drop l.text-index l.texts)) l.file.name ≡ is_named l.case l.fn.scope (texts_in l.texts) l.file.name
