-- The rows of one more piece were written, or a front of them.
use Rattle.std.proofs.Common.{sym, subst}
use Rattle.std.specs.Prelude.{All, IfOk}
use Rattle.wq_reply.specs.Rows.{IsPrinted}
use Rattle.wq_base.proofs.Fronts.{on_err}
use Rattle.wq_reply.proofs.WrittenRows.{piece_more, piece_within}
use Rattle.wq_reply.proofs.row_writer.write_rows.Goals as goal
use Rattle.wq_reply.proofs.row_writer.write_rows.Goals.{then-number-threads-eq0, else-number-threads-eq0}

pub returns-in_err-write_piece-clause-front : goal.returns-in_err-write_piece-clause-front
returns-in_err-write_piece-clause-front g c =
    on_err c.from_residual.result
    (piece_within c.args.rows.now c.loop-number.number _ _ _ c.loop-number.invariant.written c.in_err-write_piece.ensures.front)

pub loop-number-preserved : goal.loop-number-preserved
loop-number-preserved g c = record {
  written = piece_more c.args.rows.now c.loop-number.number _ _ _ c.loop-number.invariant.written c.in_ok-write_piece.ensures.done;
  printed = elim c.if-number-threads-eq0.branch [
    | then-number-threads-eq0 w ↦ subst (λ printed. All (λ one. IfOk one (IsPrinted c.args.rows.now)) printed.items) (sym w.printed-is) w.print-printed.ensures
    | else-number-threads-eq0 w ↦ subst (λ printed. All (λ one. IfOk one (IsPrinted c.args.rows.now)) printed.items) (sym w.printed-is) c.loop-number.invariant.printed
  ];
}
