-- the paths that are kept so far, and those that will be
use Rattle.std.proofs.Common.{◌≡◌, ◌++◌, ◌∷◌, map, drop}
use Rattle.wq_gen.specs.Outer.{kept_after}
use Rattle.wq_gen.proofs.outer.outer_paths.Given as goal

abbrev pub invariant-loop-path : goal.invariant-loop-path
invariant-loop-path l =
    map (λ p. p.now) l.kept.items ++ kept_after l.last (map (λ p. p.now) (drop l.path-index l.later))
    ≡ l.initial.last ∷ kept_after l.initial.last (map (λ p. p.now) l.later)
