-- the lines of the lists so far were written
use Rattle.std.proofs.Common.{take}
use Rattle.std.specs.Io.KnownBytes.{Appends}
use Rattle.wq_session.specs.Serving.{lines_for}
use Rattle.wq_session.proofs.writer.write_lists.Given as goal

abbrev pub invariant-loop-list : goal.invariant-loop-list
invariant-loop-list g l = Appends (g.W.Write.contents l.fn.writer) (g.W.Write.contents l.writer) (lines_for (take l.list-index l.lists))
