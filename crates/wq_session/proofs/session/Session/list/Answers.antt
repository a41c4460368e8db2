-- The subscriptions stay.
use Rattle.wq_session.specs.Followed.{follows_of}
use Rattle.wq_session.proofs.session.Session.list.Goals as goal

pub returns : goal.returns
returns g c = c.listed.ensures (follows_of c.args.self.now)
