-- The reply was written, and then the lists were, or fronts of them.
use Rattle.std.proofs.Common.{◌++◌, OnErr, OnOk, ap, subst}
use Rattle.std.specs.Io.KnownBytes.{Appends}
use Rattle.wq_base.specs.Writing.{WritesFront}
use Rattle.wq_base.proofs.Fronts.{front_before, on_err}
use Rattle.wq_session.specs.Serving.{line_for, lines_for}
use Rattle.wq_session.proofs.Lines.{part_after, well_behind}
use Rattle.wq_session.proofs.writer.write_out.Goals as goal

pub returns-in_err-write_reply-clause-front : goal.returns-in_err-write_reply-clause-front
returns-in_err-write_reply-clause-front g c =
    on_err c.from_residual.result
    (front_before _ _ (line_for (c.args.out.now).reply) (lines_for (c.args.out.now).lists) c.in_err-write_reply.ensures.front)

pub returns-clause-done : goal.returns-clause-done
returns-clause-done g c =
    subst (λ l. OnOk c.write_lists.result (Appends (g.W.Write.contents c.args.writer.now) (g.W.Write.contents c.write_lists.new.writer)
    l)) (ap (λ l. line_for (c.args.out.now).reply ++ lines_for l) c.lists.ensures)
    (well_behind c.write_lists.result _ _ _ (line_for (c.args.out.now).reply) (lines_for c.lists.result.now) c.in_ok-write_reply.ensures.done
    c.write_lists.ensures.done)

pub returns-clause-front : goal.returns-clause-front
returns-clause-front g c =
    subst (λ l. OnErr c.write_lists.result (WritesFront (g.W.Write.contents c.args.writer.now) (g.W.Write.contents c.write_lists.new.writer)
    l)) (ap (λ l. line_for (c.args.out.now).reply ++ lines_for l) c.lists.ensures)
    (part_after c.write_lists.result _ _ _ (line_for (c.args.out.now).reply) (lines_for c.lists.result.now) c.in_ok-write_reply.ensures.done
    c.write_lists.ensures.front)
