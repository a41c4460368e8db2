-- the patches fit if those that are left do
use Rattle.std.proofs.Common.{[], length, map, IsTrue}
use Rattle.std.specs.FinMap.{is_sorted}
use Rattle.wq_record.specs.Name.{name_cmp}
use Rattle.wq_record.specs.Seen.{entry_of}
use Rattle.wq_view.specs.Patching.{FitFrom}
use Rattle.wq_view.proofs.patch_merge.are_fit.Given as goal

abbrev pub invariant-loop-patch : goal.invariant-loop-patch
invariant-loop-patch l = record {
  earlier : IsTrue (is_sorted name_cmp (map entry_of l.earlier));
  fit : FitFrom l.chunks l.at l.earlier l.more → FitFrom l.chunks 0 [] l.patches;
}

abbrev pub decreases-loop-patch : goal.decreases-loop-patch
decreases-loop-patch l = length l.more
