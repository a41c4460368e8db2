-- The subscriptions of a client looked at a root.
use Rattle.std.proofs.Common.{ℤ, List, IfOk, None, option_map, refl, sym, ap, subst, ◌∙◌}
use mir.Facts.{to_z-of_z}
use Rattle.wq_follow.specs.Subscription.{SubscriptionData}
use Rattle.wq_crawl.specs.At.{at_data}
use Rattle.wq_session.specs.Moment.{Idles}
use Rattle.wq_replay.specs.Client.{follows_in}
use Rattle.wq_replay.specs.Clients.{FollowsNow}
use Rattle.wq_crawl.specs.Meets.{numbered}
use Rattle.wq_replay.proofs.Worlds.{rests_well}
use Rattle.wq_replay.proofs.world.World.rest.Goals as goal

pub returns : goal.returns
returns c = λ before stands.
    let had = c.args.self.now.clients.items in
    let idles = subst (λ (client : ℤ). IfOk c.idle.result (λ out. (left : List SubscriptionData)
    × Idles c.args.root (option_map at_data c.numbered-at.result) (follows_in client had) out left
    × FollowsNow client left had c.idle.new.clients.items)) (to_z-of_z c.ranges.client) c.idle.ensures in
    rests_well before c.args.client c.args.root (option_map at_data c.numbered-at.result) had
    (record c.args.self.now { clients = c.idle.new.clients; views = record c.args.self.now.views { refused = None } }) c.idle.result
    (c.numbered-at.ensures before.events stands.roots ∙ ap (λ run. numbered c.args.root run c.args.self.now.views.table) (sym stands.run))
    stands.follows stands.run stands.roots stands.shelf stands.runs refl stands.whole idles
