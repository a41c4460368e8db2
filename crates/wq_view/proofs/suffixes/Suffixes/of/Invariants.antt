-- the first texts
use Rattle.std.proofs.Common.{◌≡◌, map, take}
use Rattle.wq_view.proofs.suffixes.Suffixes.of.Given as goal

abbrev pub invariant-loop-text : goal.invariant-loop-text
invariant-loop-text l = map (λ t. t.now) l.sorted.items ≡ take l.text-index l.texts
