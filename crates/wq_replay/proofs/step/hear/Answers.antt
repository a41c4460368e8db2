-- The client was heard.
use Rattle.std.proofs.Common.{◌≡◌, ℤ, List, ◌++◌, ◌∷◌, [], map, subst}
use mir.Facts.{to_z-of_z}
use Rattle.wq_session.specs.Need.{need_of}
use Rattle.wq_replay.specs.Replay.{needed}
use Rattle.wq_replay.specs.Sending.{Sends}
use Rattle.wq_replay.specs.declared.sent.Sent.{Sent}
use Rattle.wq_replay.specs.Stands.{all_sent, happening_data}
use Rattle.wq_replay.specs.World.{asked}
use Rattle.wq_replay.proofs.Steps.{heard, heard_of}
use Rattle.wq_replay.proofs.step.hear.Goals as goal

pub returns : goal.returns
returns g c = λ at is event asks.
    let played = c.in_ok-sent.ensures.runs at.world is.world in
    let sent = all_sent c.in_ok-sent.sent.items in
    let happened = subst (λ (client : ℤ). map happening_data c.in_ok-happenings.happenings.items ≡ needed c.args.stage.now.tree (need_of c.args.ask) ++ asked client c.args.ask ∷ [])
    (to_z-of_z c.ranges.client) c.in_ok-happenings.ensures in
    heard at c.args.client event sent played.0 _ _ c.send.result (record c.args.stage.now { world = c.play.new.self })
    (heard_of at c.args.client event c.args.ask c.args.stage.now.tree _ sent played.0 asks is.tree happened played.1)
    (record { world = played.2; tree = is.tree; draft = is.draft; next = is.next })
    (subst (λ (items : List Sent). Sends (all_sent items) (g.W.Write.contents c.args.writer.now) (g.W.Write.contents c.send.new.writer) c.send.result) c.deref.ensures.value c.send.ensures)
