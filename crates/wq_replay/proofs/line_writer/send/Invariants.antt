-- The lines before these were written.
use Rattle.std.proofs.Common.{drop}
use Rattle.wq_replay.specs.Stands.{all_sent}
use Rattle.wq_replay.proofs.Sendings.{SentSoFar}
use Rattle.wq_replay.proofs.line_writer.send.Given as goal

abbrev pub invariant-loop-one : goal.invariant-loop-one
invariant-loop-one g l = SentSoFar (g.W.Write.contents l.fn.writer) (g.W.Write.contents l.writer) (all_sent l.sent) l.goes_on
    (all_sent (drop l.one-index l.sent))
