-- whether the rest shows the rows of the patches that are left
use Rattle.std.proofs.Common.{◌≡◌, length}
use Rattle.wq_view.specs.Chunk.{records_in}
use Rattle.wq_view.specs.Patching.{patched_shows}
use Rattle.wq_view.specs.Records.{records_left}
use Rattle.wq_view.proofs.patch_merge.all_shown.Given as goal

abbrev pub invariant-loop-patch : goal.invariant-loop-patch
invariant-loop-patch l = patched_shows (records_left l.left) l.more ≡ patched_shows (records_in l.slots) l.patches

abbrev pub decreases-loop-patch : goal.decreases-loop-patch
decreases-loop-patch l = length l.more
