-- Each event but an idle moment asks something.
use Rattle.std.proofs.Common.{rules}
use Rattle.wq_crawl.specs.Ready.{known}
use Rattle.wq_stream.specs.Inbox.{Hands}
use Rattle.wq_session.specs.Desk.{stand}
use Rattle.wq_session.specs.Followed.{follows_of}
use Rattle.wq_crawl.specs.Basis.{basis_of}
use Rattle.wq_session.proofs.Going.{does_other}
use Rattle.wq_session.proofs.service.take_event.Goals as goal

pub returns-in_default : goal.returns-in_default
returns-in_default g c =
    let hands : Hands (g.I.Inbox.shown c.args.inbox.now) c.next.result (g.I.Inbox.shown c.next.new.self) = search rules in
    let it = c.answer.ensures in
    record {
      serves = (
        c.next.result,
        (
          hands,
          does_other (basis_of c.args.views.run (g.N.Witness.published g.N.Named.book) (g.N.Witness.refused g.N.Named.book)) c.next.result
              (known (g.R.Roots.crawler c.args.views.roots) c.args.views.seat) (stand (g.D.Desk.shelf c.args.desk.now) (follows_of c.args.session.now))
              c.answer.result.1 (known (g.R.Roots.crawler c.answer.result.0.roots) c.answer.result.0.seat)
              (stand (g.D.Desk.shelf c.answer.new.desk) (follows_of c.answer.new.self)) (search rules) c.read-ask.result c.read-ask.ensures
              (it.0, it.1.1, it.2),
        ),
      );
      run = it.1.0;
    }
