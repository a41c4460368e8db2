-- One more line was written, or a front of it.
use Rattle.std.proofs.Common.{subst}
use Rattle.std.specs.Io.KnownBytes.{Appends}
use Rattle.wq_base.specs.Writing.{WritesFront}
use Rattle.wq_base.proofs.Fronts.{on_err}
use Rattle.wq_session.proofs.Lines.{line_more, line_within}
use Rattle.wq_session.proofs.writer.write_lists.Goals as goal

pub returns-in_err-write_all-clause-front : goal.returns-in_err-write_all-clause-front
returns-in_err-write_all-clause-front g c =
    on_err c.from_residual.result
    (line_within _ _ _ c.args.lists.now c.loop-list.list-index c.list-item.result c.loop-list-test.true c.list-item.is c.loop-list.invariant
    (subst (WritesFront (g.W.Write.contents c.loop-list.writer) (g.W.Write.contents c.write_all.new.writer)) c.as_bytes.ensures
    c.in_err-write_all.ensures.front))

pub loop-list-preserved : goal.loop-list-preserved
loop-list-preserved g c =
    line_more _ _ _ c.args.lists.now c.loop-list.list-index c.list-item.result c.loop-list-test.true c.list-item.is c.loop-list.invariant
    (subst (Appends (g.W.Write.contents c.loop-list.writer) (g.W.Write.contents c.write_all.new.writer)) c.as_bytes.ensures
    c.in_ok-write_all.ensures.done)
