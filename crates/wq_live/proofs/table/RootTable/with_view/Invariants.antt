-- the roots so far
use Rattle.std.proofs.Common.{◌≡◌, map, take}
use Rattle.wq_live.specs.Table.{with_view}
use Rattle.wq_live.proofs.table.RootTable.with_view.Given as goal

abbrev pub invariant-loop-root : goal.invariant-loop-root
invariant-loop-root l = l.roots.items ≡ map (with_view l.number l.view.value) (take l.root-index l.root-items)
