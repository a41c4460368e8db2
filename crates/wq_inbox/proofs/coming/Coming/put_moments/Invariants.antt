-- the moments that were due stay, and those of the numbers so far are due
use Rattle.std.proofs.Common.{◌≡◌, ◌++◌, ℕ, List, All, take}
use Rattle.std.specs.List.{Contains}
use Rattle.wq_inbox.proofs.coming.Coming.put_moments.Given as goal

abbrev pub invariant-loop-number : goal.invariant-loop-number
invariant-loop-number l =
    ((more : List ℕ) × (l.self.due.items ≡ l.fn.self.due.items ++ more))
    × (l.self.waiting ≡ l.fn.self.waiting)
    × All (Contains l.self.due.items) (take l.number-index l.numbers)
