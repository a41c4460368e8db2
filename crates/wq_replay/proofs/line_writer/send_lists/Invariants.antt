-- The lists before these were written.
use Rattle.std.proofs.Common.{true, drop, map}
use Rattle.wq_replay.specs.Playing.{sent_list}
use Rattle.wq_replay.proofs.Sendings.{SentSoFar}
use Rattle.wq_replay.proofs.line_writer.send_lists.Given as goal

abbrev pub invariant-loop-list : goal.invariant-loop-list
invariant-loop-list g l = SentSoFar (g.W.Write.contents l.fn.writer) (g.W.Write.contents l.writer) (map (sent_list l.told.client) l.lists) true
    (map (sent_list l.told.client) (drop l.list-index l.lists))
