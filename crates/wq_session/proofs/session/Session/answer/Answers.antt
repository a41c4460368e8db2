-- The views met the need, and the ask was answered or its line refused.
use Rattle.std.proofs.Common.{Err, Ok, subst}
use Rattle.wq_session.specs.Out.{MayRefuse}
use Rattle.wq_session.specs.Need.{need_of}
use Rattle.wq_session.specs.Desk.{AnswersAt, stand}
use Rattle.wq_session.specs.Followed.{follows_of}
use Rattle.wq_crawl.specs.Views.{SaysReady}
use Rattle.wq_session.proofs.Readying.{answered_ready, refused_ready}
use Rattle.wq_session.proofs.session.Session.answer.Goals as goal

pub returns-in-Ok : goal.returns-in-Ok
returns-in-Ok g c =
    let it = c.ready-views.ensures in
    let now = stand (g.D.Desk.shelf c.args.desk.now) (follows_of c.args.self.now) in (
      it.0,
      subst (λ n. g.V.Views.readies c.args.views n it.0 c.ready-views.result.0) c.need_of.ensures it.1,
      answered_ready g.C.Crew.may_go c.args.ask it.0 now c.answer_at.result c.in-Ok.root
          (stand (g.D.Desk.shelf c.answer_at.new.desk) (follows_of c.answer_at.new.self))
          (subst (λ r. SaysReady (need_of c.args.ask) it.0 r) c.in-Ok.is (subst (λ n. SaysReady n it.0 c.ready-views.result.1) c.need_of.ensures it.2))
          (subst
          (λ at. AnswersAt g.C.Crew.may_go now c.args.ask at c.answer_at.result (stand (g.D.Desk.shelf c.answer_at.new.desk) (follows_of c.answer_at.new.self)))
          c.at_of.ensures c.answer_at.ensures),
    )

pub returns-in-Err : goal.returns-in-Err
returns-in-Err g c =
    let it = c.ready-views.ensures in
    let now = stand (g.D.Desk.shelf c.args.desk.now) (follows_of c.args.self.now) in (
      it.0,
      subst (λ n. g.V.Views.readies c.args.views n it.0 c.ready-views.result.0) c.need_of.ensures it.1,
      refused_ready g.C.Crew.may_go c.args.ask it.0 now c.refused.result c.in-Err.fault
          (subst (λ r. SaysReady (need_of c.args.ask) it.0 r) c.in-Err.is (subst (λ n. SaysReady n it.0 c.ready-views.result.1) c.need_of.ensures it.2))
          (subst (λ r. MayRefuse r c.refused.result) c.crawl_refusal.ensures c.refused.ensures),
    )
