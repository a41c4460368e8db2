-- the rest decides
use Rattle.std.proofs.Common.{◌≡◌, map, drop}
use Rattle.wq_term.specs.Expr.{every, some, term_of, terms_of}
use Rattle.wq_term.proofs.meaning.+holds.Given as goal

abbrev pub invariant-all_hold-loop-term : goal.invariant-all_hold-loop-term
invariant-all_hold-loop-term l = every (terms_of (map term_of (drop l.term-index l.terms))) l.file ≡ every (terms_of (map term_of l.terms)) l.file

abbrev pub invariant-any_holds-loop-term : goal.invariant-any_holds-loop-term
invariant-any_holds-loop-term l = some (terms_of (map term_of (drop l.term-index l.terms))) l.file ≡ some (terms_of (map term_of l.terms)) l.file
