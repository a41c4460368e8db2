-- The session answers, and is kept if it goes on.
use Rattle.std.proofs.Common.{rules, ◌≡◌, ℤ, false, List, ◌++◌, Some, ap, sym, subst, ◌∙◌}
use mir.Facts.{to_z-of_z}
use Rattle.wq_follow.specs.Subscription.{SubscriptionData}
use Rattle.wq_session.specs.Desk.{stand}
use Rattle.wq_session.specs.Followed.{follows_of}
use Rattle.wq_session.specs.Shelved.{shelf_data}
use Rattle.wq_session.specs.Desk.{Replies}
use Rattle.wq_replay.specs.Client.{follows_in, other_clients}
use Rattle.wq_replay.specs.Clients.{kept_client}
use Rattle.wq_replay.proofs.Follows.{answer_dropped, answer_kept}
use Rattle.wq_replay.proofs.clients.answer.Goals as goal
use Rattle.wq_replay.proofs.clients.answer.Goals.{then-goes_on, else-goes_on}

pub returns : goal.returns
returns g c =
    let clients = c.args.clients.now.items in
    let session = c.answer-views.new.self in
    let out = c.answer-views.result.1 in
    let it = c.answer-views.ensures in
    let number = to_z-of_z c.ranges.number in
    let room : c.reserve.new.self.items ≡ clients = search rules in
    let had = subst (λ (z : ℤ). follows_of c.take_out-session.result ≡ follows_in z c.reserve.new.self.items) number c.take_out-session.ensures.session
    ∙ ap (follows_in c.args.number) room in
    let rest = subst (λ (z : ℤ). c.take_out-session.new.clients.items ≡ other_clients z c.reserve.new.self.items) number c.take_out-session.ensures.others
    ∙ ap (other_clients c.args.number) room in
    let says : c.goes_on.result ≡ out.goes_on = c.goes_on.ensures in (
      it.0,
      follows_of session,
      it.1,
      subst (λ (f : List SubscriptionData). Replies false it.0 c.args.ask (stand (Some (shelf_data c.args.shelf.now)) f) out
          (stand (Some (shelf_data c.answer-views.new.desk)) (follows_of session))) had it.2,
      elim c.if-goes_on.branch [
        | then-goes_on w ↦
            let put = subst (λ (z : ℤ). w.put_back.new.clients.items ≡ c.take_out-session.new.clients.items ++ kept_client z session) number w.put_back.ensures in
            answer_kept c.args.number session out.goes_on clients c.if-goes_on.clients.items (sym says ∙ w.if-goes_on.true)
            (ap (λ v. v.items) w.clients-is ∙ put ∙ ap (λ l. l ++ kept_client c.args.number session) rest)
        | else-goes_on w ↦
            answer_dropped c.args.number session out.goes_on clients c.if-goes_on.clients.items (sym says ∙ w.if-goes_on.false)
            (ap (λ v. v.items) w.clients-is ∙ rest)
      ],
    )
