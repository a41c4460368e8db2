-- the rest decides
use Rattle.std.proofs.Common.{◌≡◌, map, drop}
use Rattle.wq_term.specs.Expr.{term_of, terms_of}
use Rattle.wq_compile.specs.Large.{have_long_list}
use Rattle.wq_compile.proofs.large.+measuring.Given as goal

abbrev pub invariant-have_long_list-loop-term : goal.invariant-have_long_list-loop-term
invariant-have_long_list-loop-term l =
    have_long_list (terms_of (map term_of (drop l.term-index l.terms)))
    ≡ have_long_list (terms_of (map term_of l.terms))
