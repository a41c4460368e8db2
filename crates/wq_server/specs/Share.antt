-- The share of a processor that all roots together keep to in time. It is the server's own, and
-- from no public document.
use Rattle.std.specs.Prelude.{ℕ, ◌*◌, ◌+◌, ◌/◌, ◌≤◌, List, All, sum_by}
use Rattle.std.specs.Duration.{as_nanos}
use Rattle.wq_server.specs.declared.pace.Cycle.{Cycle}
use Rattle.wq_server.specs.Pace.{KeepsPart}

-- how many nanoseconds a cycle of a root lasts: a walk, and the pause until the next one
abbrev pub lasts : Cycle → ℕ
lasts cycle = as_nanos cycle.turn.walk + as_nanos cycle.pause

-- a root goes through its cycle again and again: how long it is walked in the whole cycles within a
-- time
abbrev pub walked_in : ℕ → Cycle → ℕ
walked_in time cycle = time / lasts cycle * as_nanos cycle.turn.walk

-- Roots that go through their cycles again and again keep to a share together, in percent of a
-- processor: within any time their walks take no more of it than that.
abbrev pub KeepShare : ℕ → List Cycle → Type 0
KeepShare percent cycles = (time : ℕ) → sum_by (walked_in time) cycles * 100 ≤ percent * time

-- a root with its part of a processor in millionths, and the cycles that it goes through, one after
-- the other
pub record Line : Type 0 where
  pub part : ℕ
  pub cycles : List Cycle

-- how long a root is walked in its cycles
abbrev pub walked : Line → ℕ
walked line = sum_by (λ cycle. as_nanos cycle.turn.walk) line.cycles

-- a root keeps to its part in each of its cycles, and these are within a time
abbrev pub KeepsWithin : ℕ → Line → Type 0
KeepsWithin time line =
    All (λ cycle. KeepsPart line.part (as_nanos cycle.turn.walk) (as_nanos cycle.pause)) line.cycles
    × (sum_by lasts line.cycles ≤ time)

-- Roots of which each keeps to its part keep to the sum of the parts together, within any time, and
-- whatever their walks take from one to the next.
abbrev pub PartsMakeShare : Type 0
PartsMakeShare =
    (time : ℕ) (lines : List Line) → All (KeepsWithin time) lines
    → sum_by walked lines * 1_000_000 ≤ sum_by (λ line. line.part) lines * time
