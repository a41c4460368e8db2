-- the slashes so far
use Rattle.std.proofs.Common.{◌≡◌, count_by, take}
use Rattle.wq_base.specs.Byte.{is_slash}
use Rattle.wq_gen.proofs.depth.slash_after.Given as goal

abbrev pub invariant-loop-at : goal.invariant-loop-at
invariant-loop-at l = l.passed ≡ count_by is_slash (take l.at l.text)
