-- whether the rest shows the rows that are left
use Rattle.std.proofs.Common.{◌≡◌, take}
use Rattle.wq_view.specs.Merge.{shows}
use Rattle.wq_view.specs.Records.{records_left}
use Rattle.wq_view.proofs.patch_merge.are_shown.Given as goal

abbrev pub invariant-loop-stretch : goal.invariant-loop-stretch
invariant-loop-stretch l = shows (take l.more (records_left l.left)) l.others ≡ shows (take l.count (records_left l.records)) l.rows

abbrev pub decreases-loop-stretch : goal.decreases-loop-stretch
decreases-loop-stretch l = l.more
