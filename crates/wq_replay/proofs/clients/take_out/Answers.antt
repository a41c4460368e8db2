-- The session is that of the place that was found, or a new one, and the others are left.
use Rattle.std.proofs.Common.{rules, ◌≡◌, ℤ, position, get_or, ap, sym, subst, ◌∙◌}
use mir.Facts.{to_z-of_z}
use Rattle.std.specs.List.{remove}
use Rattle.wq_replay.specs.Client.{is_of, other_clients}
use Rattle.wq_session.specs.Followed.{follows_of}
use Rattle.wq_replay.proofs.Follows.{follows_at, follows_none, others_removed}
use Rattle.wq_replay.proofs.clients.take_out.Goals as goal
use Rattle.wq_replay.proofs.clients.take_out.Goals.{in-Some, in-None}

pub returns-clause-session : goal.returns-clause-session
returns-clause-session c =
    let clients = c.args.clients.now.items in
    let placed = subst (λ (z : ℤ). c.place_of.result ≡ position (is_of z) c.deref.result.now) (to_z-of_z c.ranges.number) c.place_of.ensures
    ∙ ap (position (is_of c.args.number)) c.deref.ensures.value in
    elim c.match-place_of.branch [
      | in-Some w ↦
          let removed : w.remove.result ≡ get_or clients w.in-Some.place w.remove.result = search rules in
          ap follows_of w.session-is
          ∙ follows_at c.args.number clients w.in-Some.place w.remove.result (sym placed ∙ w.in-Some.is) removed
      | in-None w ↦
          ap follows_of w.session-is ∙ w.new-session.ensures
          ∙ sym (follows_none c.args.number clients (sym placed ∙ w.in-None.is))
    ]

pub returns-clause-others : goal.returns-clause-others
returns-clause-others c =
    let clients = c.args.clients.now.items in
    let placed = subst (λ (z : ℤ). c.place_of.result ≡ position (is_of z) c.deref.result.now) (to_z-of_z c.ranges.number) c.place_of.ensures
    ∙ ap (position (is_of c.args.number)) c.deref.ensures.value in
    let left = subst (λ (z : ℤ). c.drop_client.new.clients.items ≡ other_clients z c.match-place_of.clients.items) (to_z-of_z c.ranges.number) c.drop_client.ensures.others in
    elim c.match-place_of.branch [
      | in-Some w ↦
          let gone : w.remove.new.self.items ≡ remove clients w.in-Some.place = search rules in
          left ∙ ap (λ v. other_clients c.args.number v.items) w.clients-is ∙ ap (other_clients c.args.number) gone
          ∙ others_removed c.args.number clients w.in-Some.place w.remove.result (sym placed ∙ w.in-Some.is)
      | in-None w ↦ left ∙ ap (λ v. other_clients c.args.number v.items) w.clients-is
    ]
