-- the rests of both texts decide
use Rattle.std.proofs.Common.{◌≡◌, drop}
use Rattle.std.specs.Str.{str_eq_ignore_ascii_case}
use Rattle.wq_base.proofs.compare.is_same_folded.Given as goal

abbrev pub invariant-loop-i : goal.invariant-loop-i
invariant-loop-i l = str_eq_ignore_ascii_case (drop l.i l.left)
    (drop l.i l.right) ≡ str_eq_ignore_ascii_case l.left l.right
