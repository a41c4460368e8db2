-- the numbers so far
use Rattle.std.proofs.Common.{◌≡◌, map, take}
use Rattle.wq_live.proofs.table.RootTable.numbers.Given as goal

abbrev pub invariant-loop-root : goal.invariant-loop-root
invariant-loop-root l = l.numbers.items ≡ map (λ root. root.number) (take l.root-index l.root-items)
