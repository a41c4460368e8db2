-- The lines before these were written.
use Rattle.std.proofs.Common.{true, drop, map}
use Rattle.wq_replay.specs.Rounds.{sent_note}
use Rattle.wq_replay.proofs.Sendings.{SentSoFar}
use Rattle.wq_replay.proofs.line_writer.send_notes.Given as goal

abbrev pub invariant-loop-line : goal.invariant-loop-line
invariant-loop-line g l = SentSoFar (g.W.Write.contents l.fn.writer) (g.W.Write.contents l.writer) (map sent_note l.lines) true
    (map sent_note (drop l.line-index l.lines))
