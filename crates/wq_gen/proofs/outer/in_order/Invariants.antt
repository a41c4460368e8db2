-- the first paths
use Rattle.std.proofs.Common.{◌≡◌, map, take}
use Rattle.wq_gen.proofs.outer.in_order.Given as goal

abbrev pub invariant-loop-path : goal.invariant-loop-path
invariant-loop-path l = map (λ p. p.now) l.sorted.items ≡ take l.path-index l.paths
