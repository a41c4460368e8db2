-- the patterns that are left decide
use Rattle.std.proofs.Common.{◌≡◌, drop}
use Rattle.std.specs.List.{list_any}
use Rattle.wq_glob.specs.Pattern.{fits}
use Rattle.wq_gen.proofs.glob.fits_one.Given as goal

abbrev pub invariant-loop-pattern : goal.invariant-loop-pattern
invariant-loop-pattern l = list_any (λ pattern. fits pattern l.name) (drop l.pattern-index l.patterns) ≡ list_any (λ pattern. fits pattern l.name) l.patterns
