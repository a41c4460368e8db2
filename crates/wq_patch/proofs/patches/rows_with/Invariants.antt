-- the rows so far, and those of the patches that are left
use Rattle.std.proofs.Common.{◌≡◌, ◌++◌, length}
use Rattle.std.specs.Vec.Iter.{into_iter_items, into_iter_len}
use Rattle.wq_patch.specs.PatchMaker.{records_behind, rows_before}
use Rattle.wq_view.specs.Records.{records_left}
use Rattle.wq_patch.proofs.patches.rows_with.Given as goal

abbrev pub invariant-loop-patch : goal.invariant-loop-patch
invariant-loop-patch l = record {
  rows : l.rows.items ++ rows_before (records_left l.left) (into_iter_items l.patch-iterator)
      ≡ rows_before (records_left l.records) (into_iter_items l.initial.patch-iterator);
  left : records_behind (records_left l.left) (into_iter_items l.patch-iterator)
      ≡ records_behind (records_left l.records) (into_iter_items l.initial.patch-iterator);
  len : into_iter_len l.patch-iterator ≡ length (into_iter_items l.patch-iterator);
}
