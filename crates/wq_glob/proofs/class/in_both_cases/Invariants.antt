use Rattle.std.proofs.Common.{◌≡◌, ℕ, ◌<◌, ◌&&◌, ◌||◌, nat_lt, true, List}
use Rattle.wq_glob.specs.ByteSet.{has_byte}
use Rattle.wq_glob.specs.Class.{in_either_case}
use Rattle.wq_glob.specs.Member.{Holds}
use Rattle.wq_glob.specs.declared.class.Item.{Item}
use Rattle.wq_glob.proofs.class.in_both_cases.Given as goal

abbrev pub invariant-loop-n : goal.invariant-loop-n
invariant-loop-n l =
    (items : List Item) → Holds l.set items → (b : ℕ) → b < 256
    → has_byte l.held b ≡ (has_byte l.set b || (nat_lt b l.n && in_either_case true items b))
