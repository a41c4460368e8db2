-- the copies so far
use Rattle.std.proofs.Common.{◌≡◌, take}
use Rattle.wq_live.proofs.table.RootTable.copies.Given as goal

abbrev pub invariant-loop-root : goal.invariant-loop-root
invariant-loop-root l = l.roots.items ≡ take l.root-index l.root-items
