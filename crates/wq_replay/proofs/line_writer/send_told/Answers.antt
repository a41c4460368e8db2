-- The reply is written, and then the lists.
use Rattle.std.proofs.Common.{List, Result, Ok, Err, Bool, ℕ, map, subst}
use Rattle.wq_replay.specs.Sending.{Sends, SendsAll}
use Rattle.wq_replay.specs.Playing.{sent_for, sent_list}
use Rattle.wq_replay.specs.declared.fault.StepFault.{StepFault}
use Rattle.wq_replay.proofs.Sendings.{lists_fail, one_fails, one_whole}
use Rattle.wq_replay.proofs.line_writer.send_told.Goals as goal

pub returns-in_err-goes_on : goal.returns-in_err-goes_on
returns-in_err-goes_on g c =
    let sent = c.args.told.now in
    one_fails (g.W.Write.contents c.args.writer.now) (g.W.Write.contents c.send_reply.new.writer) (sent_for sent.client sent.out.shuts sent.out.reply) (map (sent_list sent.client) sent.out.lists)
    c.in_err-goes_on.field-0.0 c.from_residual.result
    (subst (λ (r : Result Bool StepFault). Sends (sent_for sent.client sent.out.shuts sent.out.reply) (g.W.Write.contents c.args.writer.now) (g.W.Write.contents c.send_reply.new.writer) r)
    c.in_err-goes_on.was c.send_reply.ensures)
    c.from_residual.ensures

pub returns-in_err-send_lists : goal.returns-in_err-send_lists
returns-in_err-send_lists g c =
    let sent = c.args.told.now in
    lists_fail (g.W.Write.contents c.args.writer.now) (g.W.Write.contents c.send_reply.new.writer) (g.W.Write.contents c.send_lists.new.writer)
    (sent_for sent.client sent.out.shuts sent.out.reply) (map (sent_list sent.client) sent.out.lists) c.in_ok-goes_on.goes_on c.in_err-send_lists.field-0.0
    c.from_residual-in_err-send_lists.result
    (subst (λ (r : Result Bool StepFault). Sends (sent_for sent.client sent.out.shuts sent.out.reply) (g.W.Write.contents c.args.writer.now) (g.W.Write.contents c.send_reply.new.writer) r)
    c.in_ok-goes_on.was c.send_reply.ensures)
    (subst (λ (lists : List (List ℕ)). SendsAll (map (sent_list sent.client) lists) (g.W.Write.contents c.send_reply.new.writer) (g.W.Write.contents c.send_lists.new.writer) (Err c.in_err-send_lists.field-0.0))
    c.lists.ensures
    (subst (λ (r : Result (Unit {0}) StepFault). SendsAll (map (sent_list sent.client) c.lists.result.now) (g.W.Write.contents c.send_reply.new.writer) (g.W.Write.contents c.send_lists.new.writer) r)
    c.in_err-send_lists.was c.send_lists.ensures))
    c.from_residual-in_err-send_lists.ensures

pub returns : goal.returns
returns g c =
    let sent = c.args.told.now in
    one_whole (g.W.Write.contents c.args.writer.now) (g.W.Write.contents c.send_reply.new.writer) (g.W.Write.contents c.send_lists.new.writer)
    (sent_for sent.client sent.out.shuts sent.out.reply) sent.client sent.out.lists c.in_ok-goes_on.goes_on
    (subst (λ (r : Result Bool StepFault). Sends (sent_for sent.client sent.out.shuts sent.out.reply) (g.W.Write.contents c.args.writer.now) (g.W.Write.contents c.send_reply.new.writer) r)
    c.in_ok-goes_on.was c.send_reply.ensures)
    (subst (λ (lists : List (List ℕ)). SendsAll (map (sent_list sent.client) lists) (g.W.Write.contents c.send_reply.new.writer) (g.W.Write.contents c.send_lists.new.writer) (Ok c.in_ok-send_lists.field-0))
    c.lists.ensures
    (subst (λ (r : Result (Unit {0}) StepFault). SendsAll (map (sent_list sent.client) c.lists.result.now) (g.W.Write.contents c.send_reply.new.writer) (g.W.Write.contents c.send_lists.new.writer) r)
    c.in_ok-send_lists.was c.send_lists.ensures))
