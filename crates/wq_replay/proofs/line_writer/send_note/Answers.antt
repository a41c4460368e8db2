-- If the text or its newline is not written whole, a front of the line was written.
use Rattle.std.proofs.Common.{codes}
use Rattle.std.proofs.lemmas.Result.{on_err_weaker, on_ok_weaker}
use Rattle.wq_base.proofs.Fronts.{appends_then, front_before, front_behind, on_err}
use Rattle.wq_replay.proofs.line_writer.send_note.Goals as goal

pub returns-in_err-write_all-clause-front : goal.returns-in_err-write_all-clause-front
returns-in_err-write_all-clause-front g c =
    on_err c.from_residual.result (front_before _ _ c.args.text.now (codes "\n") c.in_err-write_all.ensures.front)

pub returns-clause-front : goal.returns-clause-front
returns-clause-front g c =
    on_err_weaker c.write_all-2.result (λ last. front_behind _ _ _ c.args.text.now (codes "\n") c.in_ok-write_all.ensures.done last)
    c.write_all-2.ensures.front

pub returns-clause-done : goal.returns-clause-done
returns-clause-done g c =
    on_ok_weaker c.write_all-2.result (λ last. appends_then _ _ _ c.args.text.now (codes "\n") c.in_ok-write_all.ensures.done last)
    c.write_all-2.ensures.done
