-- The bytes that were taken of the line. More of it may come, and its end was not taken.
use Rattle.std.proofs.Common.{◌≤◌, false, [], length, IfSome}
use Rattle.wq_replay.specs.Replay.{StopsWithin}
use Rattle.wq_replay.specs.Taken.{TakesPart, max_kept}
use Rattle.wq_replay.proofs.line_reader.take_line.Given as goal

abbrev pub invariant-loop : goal.invariant-loop
invariant-loop g l = (length l.line.items ≤ max_kept)
    × IfSome (g.R.Read.remaining l.fn.reader) (λ bytes. TakesPart bytes [] false l.line.items (g.R.Read.remaining l.reader))
    × IfSome (g.R.Read.remaining l.fn.reader) (λ bytes. StopsWithin bytes (g.R.Read.remaining l.reader))
