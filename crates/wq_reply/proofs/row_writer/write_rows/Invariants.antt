-- the rows of the pieces so far were written, and what is printed are pieces
use Rattle.std.proofs.Common.{◌*◌, take}
use Rattle.std.specs.Io.KnownBytes.{Appends}
use Rattle.std.specs.Prelude.{All, IfOk}
use Rattle.wq_reply.specs.Rows.{IsPrinted, data_at, rows_text}
use Rattle.wq_reply.proofs.row_writer.write_rows.Given as goal

abbrev pub invariant-loop-number : goal.invariant-loop-number
invariant-loop-number g l = record {
  written : Appends (g.W.Write.contents l.fn.writer) (g.W.Write.contents l.writer)
      (rows_text (data_at l.rows (take (l.number * l.rows.size) l.rows.places.now)));
  printed : All (λ one. IfOk one (IsPrinted l.rows)) l.printed.items;
}
