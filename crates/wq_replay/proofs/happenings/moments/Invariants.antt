-- The moments so far, with those of the numbers that are left, are those of all.
use Rattle.std.proofs.Common.{◌≡◌, ◌++◌, map, drop}
use Rattle.wq_replay.specs.Stands.{happening_data}
use Rattle.wq_replay.specs.World.{idle}
use Rattle.wq_replay.proofs.happenings.moments.Given as goal

abbrev pub invariant-loop-root : goal.invariant-loop-root
invariant-loop-root l =
    map happening_data l.moments.items ++ map (idle l.client) (drop l.root-index l.numbers) ≡ map (idle l.client) l.numbers
