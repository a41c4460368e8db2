-- the roots that are kept are at most as many as before
use Rattle.std.proofs.Common.{not, take, length, ap, arith}
use Rattle.std.proofs.lemmas.List.{length-take}
use Rattle.std.proofs.lemmas.List.Sums.{length-filter, count_by-le-length}
use Rattle.wq_live.specs.Table.{has_number}
use Rattle.wq_live.proofs.table.RootTable.without.Goals as goal

pub invariant_of-result : goal.invariant_of-result
invariant_of-result c =
    let kept = take c.loop-root.root-index c.deref-root-items.result.now in (
      omega (
        arith,
        ap length c.loop-root.invariant,
        length-filter (λ root. not (has_number c.args.number root)) kept,
        count_by-le-length (λ root. not (has_number c.args.number root)) kept,
        length-take c.loop-root.root-index c.deref-root-items.result.now,
        ap length c.deref-root-items.ensures.value,
        c.self.invariant.0,
      ),
      c.self.invariant.1,
    )
