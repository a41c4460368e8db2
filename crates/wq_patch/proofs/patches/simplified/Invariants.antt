-- the rows of the patches that are left are behind those of the fewer patches
use Rattle.std.proofs.Common.{◌≡◌, ◌++◌, List, length}
use Rattle.std.specs.Vec.Iter.{into_iter_items, into_iter_len}
use Rattle.wq_record.specs.RecordData.{RecordData}
use Rattle.wq_patch.specs.PatchMaker.{records_behind, rows_before}
use Rattle.wq_view.specs.Patch.{patched}
use Rattle.wq_patch.proofs.Carried.{carried}
use Rattle.wq_patch.proofs.patches.simplified.Given as goal

abbrev pub invariant-loop-patch : goal.invariant-loop-patch
invariant-loop-patch l = record {
  rows : (records : List RecordData) → rows_before records l.fewer.items ++ carried l.kept (records_behind records l.fewer.items) (into_iter_items l.patch-iterator)
      ≡ patched records (into_iter_items l.initial.patch-iterator);
  len : into_iter_len l.patch-iterator ≡ length (into_iter_items l.patch-iterator);
}
