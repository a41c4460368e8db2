use Rattle.std.proofs.Common.{◌≡◌, ℕ, ◌<◌, ◌&&◌, ◌||◌, ◌==◌, nat_lt}
use Rattle.wq_glob.specs.Byte.{is_between}
use Rattle.wq_glob.specs.ByteSet.{has_byte}
use Rattle.wq_glob.proofs.class.insert_range.Given as goal

abbrev pub invariant-loop-n : goal.invariant-loop-n
invariant-loop-n l =
    (b : ℕ) → b < 256 → has_byte l.set b ≡ ((has_byte l.fn.set b || b == l.first) || (nat_lt b l.n && is_between l.first l.last b))
