-- The lists are written one after the other.
use Rattle.std.proofs.Common.{◌+◌, FitsSigned, w64, rules, true, ℤ, Some, map, drop, ap, refl, subst}
use mir.Facts.{to_z-of_z}
use Rattle.std.specs.Io.KnownBytes.{Appends}
use Rattle.std.proofs.lemmas.List.{drop_all}
use Rattle.wq_base.specs.Writing.{WritesFront}
use Rattle.wq_replay.specs.Replay.{sent_line}
use Rattle.wq_replay.specs.Playing.{sent_list}
use Rattle.wq_replay.proofs.Sendings.{front_lists, list_sent, next_text, whole_lists}
use Rattle.wq_replay.proofs.line_writer.send_lists.Goals as goal

pub returns : goal.returns
returns g c =
    let client = c.args.told.now.client in
    whole_lists _ _ (map (sent_list client) c.args.lists.now) (map (sent_list client) (drop c.loop-list.list-index c.args.lists.now)) true c.loop-list.invariant
    (ap (map (sent_list client)) (drop_all c.loop-list.list-index c.args.lists.now c.loop-list-test.false))

pub returns-in_err-send_line : goal.returns-in_err-send_line
returns-in_err-send_line g c =
    let client = c.args.told.now.client in
    let fits : FitsSigned w64 c.args.told.now.client = search rules in
    front_lists _ _ _ (map (sent_list client) c.args.lists.now) (map (sent_list client) (drop c.loop-list.list-index c.args.lists.now))
    (map (sent_list client) (drop (c.loop-list.list-index + 1) c.args.lists.now)) (sent_list client c.list-item.result) true c.from_residual.result c.loop-list.invariant
    (next_text (sent_list client) c.args.lists.now c.loop-list.list-index c.list-item.result c.loop-list-test.true c.list-item.is)
    (subst (λ (z : ℤ). WritesFront (g.W.Write.contents c.loop-list.writer) (g.W.Write.contents c.send_line.new.writer) (sent_line (Some z) c.list-item.result)) (to_z-of_z fits)
    (c.in_err-send_line.ensures.front c.list-item.result c.as_bytes.ensures))
    c.from_residual.ensures

pub loop-list-preserved : goal.loop-list-preserved
loop-list-preserved g c =
    let client = c.args.told.now.client in
    let fits : FitsSigned w64 c.args.told.now.client = search rules in
    list_sent _ _ _ (map (sent_list client) c.args.lists.now) (map (sent_list client) (drop c.loop-list.list-index c.args.lists.now))
    (map (sent_list client) (drop (c.loop-list.list-index + 1) c.args.lists.now)) (sent_list client c.list-item.result) true c.loop-list.invariant
    (next_text (sent_list client) c.args.lists.now c.loop-list.list-index c.list-item.result c.loop-list-test.true c.list-item.is) refl
    (subst (λ (z : ℤ). Appends (g.W.Write.contents c.loop-list.writer) (g.W.Write.contents c.send_line.new.writer) (sent_line (Some z) c.list-item.result)) (to_z-of_z fits)
    (c.in_ok-send_line.ensures.done c.list-item.result c.as_bytes.ensures))
