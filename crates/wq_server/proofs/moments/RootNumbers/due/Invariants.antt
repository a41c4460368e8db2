-- the numbers so far
use Rattle.std.proofs.Common.{◌≡◌, ◌+◌, ◌-◌, ◌++◌, min}
use Rattle.std.specs.List.{range_with_len}
use Rattle.wq_server.proofs.moments.RootNumbers.due.Given as goal

abbrev pub invariant-loop-last : goal.invariant-loop-last
invariant-loop-last l =
    l.due.items ≡ l.self.shown.items ++ range_with_len (l.self.given + 1) (min l.last l.given - l.self.given)
