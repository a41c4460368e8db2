-- The happenings that were played, whatever is played after them.
use Rattle.std.proofs.Common.{map}
use Rattle.wq_replay.specs.Stands.{Stands, all_sent, happening_data}
use Rattle.wq_replay.specs.World.{WorldData}
use Rattle.wq_replay.proofs.Worlds.{PlaysOn}
use Rattle.wq_replay.proofs.world.World.play_all.Given as goal

abbrev pub invariant-loop-happening : goal.invariant-loop-happening
invariant-loop-happening l = (before : WorldData) → Stands before l.fn.self → (now : WorldData) × Stands now l.self
    × PlaysOn before (map happening_data l.fn.happenings.items) (all_sent l.sent.items) now
    (map happening_data l.happening-iterator.rest.items)
