-- The lines are written one after the other.
use Rattle.std.proofs.Common.{◌+◌, ℕ, List, None, true, map, drop, ap, refl, subst}
use Rattle.std.specs.Io.KnownBytes.{Appends}
use Rattle.std.proofs.lemmas.List.{drop_all}
use Rattle.wq_base.specs.Writing.{WritesFront}
use Rattle.wq_replay.specs.Replay.{sent_line}
use Rattle.wq_replay.specs.Rounds.{sent_note}
use Rattle.wq_replay.proofs.Sendings.{front_lists, list_sent, next_text, whole_lists}
use Rattle.wq_replay.proofs.line_writer.send_notes.Goals as goal

pub returns : goal.returns
returns g c =
    whole_lists _ _ (map sent_note c.args.lines.now) (map sent_note (drop c.loop-line.line-index c.args.lines.now)) true c.loop-line.invariant
    (ap (map sent_note) (drop_all c.loop-line.line-index c.args.lines.now c.loop-line-test.false))

pub returns-in_err-send_note : goal.returns-in_err-send_note
returns-in_err-send_note g c =
    front_lists _ _ _ (map sent_note c.args.lines.now) (map sent_note (drop c.loop-line.line-index c.args.lines.now))
    (map sent_note (drop (c.loop-line.line-index + 1) c.args.lines.now)) (sent_note c.line-item.result) true c.from_residual.result c.loop-line.invariant
    (next_text sent_note c.args.lines.now c.loop-line.line-index c.line-item.result c.loop-line-test.true c.line-item.is)
    (subst (λ (text : List ℕ). WritesFront (g.W.Write.contents c.loop-line.writer) (g.W.Write.contents c.send_note.new.writer) (sent_line None text)) c.as_slice.ensures
    c.in_err-send_note.ensures.front)
    c.from_residual.ensures

pub loop-line-preserved : goal.loop-line-preserved
loop-line-preserved g c =
    list_sent _ _ _ (map sent_note c.args.lines.now) (map sent_note (drop c.loop-line.line-index c.args.lines.now))
    (map sent_note (drop (c.loop-line.line-index + 1) c.args.lines.now)) (sent_note c.line-item.result) true c.loop-line.invariant
    (next_text sent_note c.args.lines.now c.loop-line.line-index c.line-item.result c.loop-line-test.true c.line-item.is) refl
    (subst (λ (text : List ℕ). Appends (g.W.Write.contents c.loop-line.writer) (g.W.Write.contents c.send_note.new.writer) (sent_line None text)) c.as_slice.ensures
    c.in_ok-send_note.ensures.done)
