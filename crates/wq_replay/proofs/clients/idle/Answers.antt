-- The session gets the lists, and is kept.
use Rattle.std.proofs.Common.{rules, ◌≡◌, ℤ, List, ◌++◌, option_map, ap, subst, ◌∙◌}
use mir.Facts.{to_z-of_z}
use Rattle.wq_follow.specs.Subscription.{SubscriptionData}
use Rattle.wq_session.specs.Moment.{Idles}
use Rattle.wq_crawl.specs.At.{at_data}
use Rattle.wq_session.specs.Followed.{follows_of}
use Rattle.wq_replay.specs.Client.{follows_in, other_clients}
use Rattle.wq_replay.specs.Clients.{kept_client}
use Rattle.wq_replay.proofs.Follows.{kept_now}
use Rattle.wq_replay.proofs.clients.idle.Goals as goal

pub returns : goal.returns
returns c =
    let clients = c.args.clients.now.items in
    let session = c.idle-out.new.self in
    let number = to_z-of_z c.ranges.number in
    let room : c.reserve.new.self.items ≡ clients = search rules in
    let had = subst (λ (z : ℤ). follows_of c.take_out-session.result ≡ follows_in z c.reserve.new.self.items) number c.take_out-session.ensures.session
    ∙ ap (follows_in c.args.number) room in
    let rest = subst (λ (z : ℤ). c.take_out-session.new.clients.items ≡ other_clients z c.reserve.new.self.items) number c.take_out-session.ensures.others
    ∙ ap (other_clients c.args.number) room in
    let put = subst (λ (z : ℤ). c.put_back.new.clients.items ≡ c.take_out-session.new.clients.items ++ kept_client z session) number c.put_back.ensures in (
      follows_of session,
      subst (λ (f : List SubscriptionData). Idles c.args.root (option_map at_data c.args.at) f c.idle-out.result (follows_of session)) had c.idle-out.ensures,
      kept_now c.args.number session clients c.put_back.new.clients.items (put ∙ ap (λ l. l ++ kept_client c.args.number session) rest),
    )
