-- the roots kept so far
use Rattle.std.proofs.Common.{◌≡◌, not, take, filter}
use Rattle.wq_live.specs.Table.{has_number}
use Rattle.wq_live.proofs.table.RootTable.without.Given as goal

abbrev pub invariant-loop-root : goal.invariant-loop-root
invariant-loop-root l = l.roots.items ≡ filter (λ root. not (has_number l.number root)) (take l.root-index l.root-items)
