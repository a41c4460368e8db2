-- The reply, if there is one, is written.
use Rattle.std.proofs.Common.{FitsSigned, w64, rules, not, ℤ, Some, ap, sym, subst, ◌∙◌}
use mir.Facts.{to_z-of_z}
use Rattle.std.specs.Io.KnownBytes.{Appends}
use Rattle.wq_session.specs.Said.{line_in}
use Rattle.wq_base.specs.Writing.{WritesFront}
use Rattle.wq_replay.specs.Replay.{sent_line}
use Rattle.wq_replay.proofs.Sendings.{line_some, reply_fails, reply_none, reply_whole}
use Rattle.wq_replay.proofs.line_writer.send_reply.Goals as goal

pub returns-then-is_none : goal.returns-then-is_none
returns-then-is_none g c =
    reply_none (g.W.Write.contents c.args.writer.now) c.args.told.now.client c.args.told.now.out.shuts c.args.told.now.out.reply
    (line_in c.line-line.result) c.line-line.ensures (sym c.is_none.ensures ∙ c.if-is_none.true)

pub returns-in_err-send_line : goal.returns-in_err-send_line
returns-in_err-send_line g c =
    let fits : FitsSigned w64 c.args.told.now.client = search rules in
    let it = line_some c.args.told.now.out.reply c.line-line.result c.line-line.ensures (sym c.is_none.ensures ∙ c.if-is_none.false) in
    reply_fails (g.W.Write.contents c.args.writer.now) (g.W.Write.contents c.send_line.new.writer) c.args.told.now.client c.args.told.now.out.shuts c.args.told.now.out.reply it.0
    c.from_residual.result it.1
    (subst (λ (z : ℤ). WritesFront (g.W.Write.contents c.args.writer.now) (g.W.Write.contents c.send_line.new.writer) (sent_line (Some z) it.0)) (to_z-of_z fits)
    (c.in_err-send_line.ensures.front it.0 it.2))
    c.from_residual.ensures

pub returns : goal.returns
returns g c =
    let fits : FitsSigned w64 c.args.told.now.client = search rules in
    let it = line_some c.args.told.now.out.reply c.line-line.result c.line-line.ensures (sym c.is_none.ensures ∙ c.if-is_none.false) in
    reply_whole (g.W.Write.contents c.args.writer.now) (g.W.Write.contents c.send_line.new.writer) c.args.told.now.client c.args.told.now.out.shuts (not c.shuts.result) c.args.told.now.out.reply it.0
    it.1 (ap not c.shuts.ensures)
    (subst (λ (z : ℤ). Appends (g.W.Write.contents c.args.writer.now) (g.W.Write.contents c.send_line.new.writer) (sent_line (Some z) it.0)) (to_z-of_z fits)
    (c.in_ok-send_line.ensures.done it.0 it.2))
