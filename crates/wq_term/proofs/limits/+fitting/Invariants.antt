-- the rest decides
use Rattle.std.proofs.Common.{◌≡◌, ◌&&◌, nat_le, map, drop}
use Rattle.wq_term.specs.Expr.{greatest_depth, term_of, terms_of}
use Rattle.wq_term.specs.Fits.{all_keep_limits}
use Rattle.wq_term.proofs.limits.+fitting.Given as goal

abbrev pub invariant-all_fit-loop-term : goal.invariant-all_fit-loop-term
invariant-all_fit-loop-term l =
    (nat_le (greatest_depth (terms_of (map term_of (drop l.term-index l.terms)))) l.levels
    && all_keep_limits (terms_of (map term_of (drop l.term-index l.terms))))
    ≡ (nat_le (greatest_depth (terms_of (map term_of l.terms))) l.levels
    && all_keep_limits (terms_of (map term_of l.terms)))
