-- The numbers before the place are lower.
use Rattle.std.proofs.Common.{◌≡◌, ◌++◌, take, drop}
use Rattle.wq_replay.specs.Client.{with_root_number}
use Rattle.wq_replay.proofs.clients.place_for.Given as goal

abbrev pub invariant-loop-place : goal.invariant-loop-place
invariant-loop-place l =
    with_root_number l.number l.numbers ≡ take l.place l.numbers ++ with_root_number l.number (drop l.place l.numbers)
