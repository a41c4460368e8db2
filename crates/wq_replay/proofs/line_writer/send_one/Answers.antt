-- The lines of a round are written.
use Rattle.std.proofs.Common.{List, ℕ, Ok, true, map, sym, subst}
use Rattle.std.specs.Io.KnownBytes.{Appends}
use Rattle.wq_replay.specs.Replay.{sent_lines}
use Rattle.wq_replay.specs.Rounds.{sent_note}
use Rattle.wq_replay.specs.Sending.{Sends}
use Rattle.wq_replay.specs.Stands.{sent_of}
use Rattle.wq_replay.specs.declared.sent.Sent.{Sent}
use Rattle.wq_replay.proofs.Sendings.{notes_whole}
use Rattle.wq_replay.proofs.line_writer.send_one.Goals as goal

pub returns-in_ok-send_notes-in-OfRound : goal.returns-in_ok-send_notes-in-OfRound
returns-in_ok-send_notes-in-OfRound g c =
    subst (λ (sent : Sent). Sends (sent_of sent) (g.W.Write.contents c.args.writer.now) (g.W.Write.contents c.send_notes.new.writer) (Ok true)) (sym c.in-OfRound.is)
    (notes_whole (g.W.Write.contents c.args.writer.now) (g.W.Write.contents c.send_notes.new.writer) c.in-OfRound.lines
    (subst (λ (lines : List (List ℕ)). Appends (g.W.Write.contents c.args.writer.now) (g.W.Write.contents c.send_notes.new.writer) (sent_lines (map sent_note lines))) c.as_slice.ensures
    c.in_ok-send_notes-in-OfRound.ensures))
