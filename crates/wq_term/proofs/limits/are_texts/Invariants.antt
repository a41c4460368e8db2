-- the rest decides
use Rattle.std.proofs.Common.{◌≡◌, drop}
use Rattle.std.specs.List.{list_all}
use Rattle.wq_term.specs.Expr.{texts_in}
use Rattle.wq_term.specs.Fits.{is_text}
use Rattle.wq_term.proofs.limits.are_texts.Given as goal

abbrev pub invariant-loop-text : goal.invariant-loop-text
invariant-loop-text l =
    list_all is_text (texts_in (drop l.text-index l.texts)) ≡ list_all is_text (texts_in l.texts)
