-- All was played, and its lines are written.
use Rattle.std.proofs.Common.{Bool, List, Result, map, subst}
use Rattle.wq_replay.specs.Sending.{Sends}
use Rattle.wq_replay.specs.Stands.{all_sent, happening_data}
use Rattle.wq_replay.specs.declared.fault.StepFault.{StepFault}
use Rattle.wq_replay.specs.declared.sent.Sent.{Sent}
use Rattle.wq_replay.proofs.Steps.{happened}
use Rattle.wq_replay.proofs.step.happen.Goals as goal

pub returns : goal.returns
returns g c = λ at is.
    let played = c.in_ok-sent.ensures.runs at.world is.world in
    happened at (map happening_data c.args.happenings.items) (all_sent c.in_ok-sent.sent.items) played.0 _ _ c.in_ok-send.field-0 (record c.args.stage.now { world = c.play.new.self })
    played.1 (record { world = played.2; tree = is.tree; draft = is.draft; next = is.next })
    (subst (λ (r : Result Bool StepFault). Sends (all_sent c.in_ok-sent.sent.items) (g.W.Write.contents c.args.writer.now) (g.W.Write.contents c.send.new.writer) r) c.in_ok-send.was
    (subst (λ (items : List Sent). Sends (all_sent items) (g.W.Write.contents c.args.writer.now) (g.W.Write.contents c.send.new.writer) c.send.result) c.deref.ensures.value c.send.ensures))
