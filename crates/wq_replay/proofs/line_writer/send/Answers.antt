-- All lines are written, one after the other.
use Rattle.std.proofs.Common.{◌+◌, ◌&&◌, Result, Bool, drop, ap, subst, ◌∙◌}
use Rattle.std.proofs.lemmas.List.{drop_all}
use Rattle.wq_replay.specs.Sending.{Sends}
use Rattle.wq_replay.specs.Stands.{all_sent, sent_of}
use Rattle.wq_replay.specs.declared.fault.StepFault.{StepFault}
use Rattle.wq_replay.proofs.Sendings.{next_front, next_sent, some_sent, whole_sent}
use Rattle.wq_replay.proofs.line_writer.send.Goals as goal

pub returns : goal.returns
returns g c =
    whole_sent _ _ (all_sent c.args.sent.now) (all_sent (drop c.loop-one.one-index c.args.sent.now)) c.loop-one.goes_on c.loop-one.invariant
    (ap all_sent (drop_all c.loop-one.one-index c.args.sent.now c.loop-one-test.false))

pub returns-in_err-goes : goal.returns-in_err-goes
returns-in_err-goes g c =
    next_front _ _ _ (all_sent c.args.sent.now) (all_sent (drop c.loop-one.one-index c.args.sent.now)) (sent_of c.one-item.result) (all_sent (drop (c.loop-one.one-index + 1) c.args.sent.now))
    c.loop-one.goes_on c.in_err-goes.field-0.0 c.from_residual.result c.loop-one.invariant
    (next_sent c.args.sent.now c.loop-one.one-index c.one-item.result c.loop-one-test.true c.one-item.is)
    (subst (λ (r : Result Bool StepFault). Sends (sent_of c.one-item.result) (g.W.Write.contents c.loop-one.writer) (g.W.Write.contents c.send_one.new.writer) r)
    c.in_err-goes.was c.send_one.ensures)
    c.from_residual.ensures

pub loop-one-preserved : goal.loop-one-preserved
loop-one-preserved g c =
    let sends = subst (λ (r : Result Bool StepFault). Sends (sent_of c.one-item.result) (g.W.Write.contents c.loop-one.writer) (g.W.Write.contents c.send_one.new.writer) r)
    c.in_ok-goes.was c.send_one.ensures in
    some_sent _ _ _ (all_sent c.args.sent.now) (all_sent (drop c.loop-one.one-index c.args.sent.now)) (sent_of c.one-item.result) (all_sent (drop (c.loop-one.one-index + 1) c.args.sent.now))
    c.loop-one.goes_on c.both-goes_on.result c.loop-one.invariant
    (next_sent c.args.sent.now c.loop-one.one-index c.one-item.result c.loop-one-test.true c.one-item.is)
    sends.1 (c.both-goes_on.ensures ∙ ap (λ b. c.loop-one.goes_on && b) sends.0)
