-- One more event was taken, after which the session goes on, or ends.
use Rattle.std.proofs.Common.{rules, inr, refl, ◌+◌, ◌++◌, ◌∷◌, [], ◌∙◌, ap, length-append, subst}
use Rattle.wq_session.specs.Followed.{follows_of}
use Rattle.wq_crawl.specs.Basis.{basis_of}
use Rattle.wq_session.specs.Serving.{Serves, place, written_for}
use Rattle.wq_base.proofs.Fronts.{appends_then}
use Rattle.wq_session.proofs.Going.{ends_well, ends_within, goes_on_by}
use Rattle.wq_session.proofs.service.serve.Goals as goal

pub returns-then-is_err : goal.returns-then-is_err
returns-then-is_err g c =
    let inv = c.loop.invariant in
    let event = c.take_event-after.ensures.serves.0 in (
      follows_of c.take_event-after.new.session,
      ends_within (basis_of c.args.views.run (g.N.Witness.published g.N.Named.book) (g.N.Witness.refused g.N.Named.book)) (place (g.I.Inbox.shown c.args.inbox.now) (g.R.Roots.crawler c.args.views.roots) c.args.views.seat (g.D.Desk.shelf c.args.desk.now) [])
          (g.W.Write.contents c.args.writer.now) (g.W.Write.contents c.loop.writer) (g.W.Write.contents c.write_out.new.writer) inv.1 inv.2
          (place (g.I.Inbox.shown c.loop.inbox) (g.R.Roots.crawler c.loop.views.roots) c.loop.views.seat (g.D.Desk.shelf c.loop.desk) (follows_of c.loop.session)) event c.take_event-after.result.1
          (place (g.I.Inbox.shown c.take_event-after.new.inbox) (g.R.Roots.crawler c.take_event-after.result.0.roots) c.take_event-after.result.0.seat
          (g.D.Desk.shelf c.take_event-after.new.desk) (follows_of c.take_event-after.new.session)) c.shuts-shut.result (search rules) inv.4
          (subst (λ r. Serves (basis_of r (g.N.Witness.published g.N.Named.book) (g.N.Witness.refused g.N.Named.book)) (place (g.I.Inbox.shown c.loop.inbox) (g.R.Roots.crawler c.loop.views.roots) c.loop.views.seat (g.D.Desk.shelf c.loop.desk) (follows_of c.loop.session)) event
          c.take_event-after.result.1 (place (g.I.Inbox.shown c.take_event-after.new.inbox) (g.R.Roots.crawler c.take_event-after.result.0.roots)
          c.take_event-after.result.0.seat (g.D.Desk.shelf c.take_event-after.new.desk) (follows_of c.take_event-after.new.session))) inv.0 c.take_event-after.ensures.serves.1)
          (search rules) inv.5 (search rules),
    )

pub returns-then-not-goes_on : goal.returns-then-not-goes_on
returns-then-not-goes_on g c =
    let inv = c.loop.invariant in
    let event = c.take_event-after.ensures.serves.0 in (
      follows_of c.take_event-after.new.session,
      ends_well (basis_of c.args.views.run (g.N.Witness.published g.N.Named.book) (g.N.Witness.refused g.N.Named.book)) (place (g.I.Inbox.shown c.args.inbox.now) (g.R.Roots.crawler c.args.views.roots) c.args.views.seat (g.D.Desk.shelf c.args.desk.now) [])
          (g.W.Write.contents c.args.writer.now) (g.W.Write.contents c.loop.writer) (g.W.Write.contents c.write_out.new.writer) inv.1 inv.2
          (place (g.I.Inbox.shown c.loop.inbox) (g.R.Roots.crawler c.loop.views.roots) c.loop.views.seat (g.D.Desk.shelf c.loop.desk) (follows_of c.loop.session)) event c.take_event-after.result.1
          (place (g.I.Inbox.shown c.take_event-after.new.inbox) (g.R.Roots.crawler c.take_event-after.result.0.roots) c.take_event-after.result.0.seat
          (g.D.Desk.shelf c.take_event-after.new.desk) (follows_of c.take_event-after.new.session)) c.shuts-shut.result (search rules) inv.4
          (subst (λ r. Serves (basis_of r (g.N.Witness.published g.N.Named.book) (g.N.Witness.refused g.N.Named.book)) (place (g.I.Inbox.shown c.loop.inbox) (g.R.Roots.crawler c.loop.views.roots) c.loop.views.seat (g.D.Desk.shelf c.loop.desk) (follows_of c.loop.session)) event
          c.take_event-after.result.1 (place (g.I.Inbox.shown c.take_event-after.new.inbox) (g.R.Roots.crawler c.take_event-after.result.0.roots)
          c.take_event-after.result.0.seat (g.D.Desk.shelf c.take_event-after.new.desk) (follows_of c.take_event-after.new.session))) inv.0 c.take_event-after.ensures.serves.1)
          (search rules) (search rules) inv.5 (search rules),
    )

pub loop-preserved : goal.loop-preserved
loop-preserved g c =
    let inv = c.loop.invariant in
    let event = c.take_event-after.ensures.serves.0 in (
      c.take_event-after.ensures.run ∙ inv.0,
      inv.1 ++ event ∷ [],
      inv.2 ++ written_for c.take_event-after.result.1,
      length-append inv.1 (event ∷ []) ∙ ap (λ n. n + 1) inv.3,
      goes_on_by (basis_of c.args.views.run (g.N.Witness.published g.N.Named.book) (g.N.Witness.refused g.N.Named.book)) _ inv.1 inv.2 _ event c.take_event-after.result.1 _ inv.4
          (subst (λ r. Serves (basis_of r (g.N.Witness.published g.N.Named.book) (g.N.Witness.refused g.N.Named.book)) (place (g.I.Inbox.shown c.loop.inbox) (g.R.Roots.crawler c.loop.views.roots) c.loop.views.seat (g.D.Desk.shelf c.loop.desk) (follows_of c.loop.session)) event
          c.take_event-after.result.1 (place (g.I.Inbox.shown c.take_event-after.new.inbox) (g.R.Roots.crawler c.take_event-after.result.0.roots)
          c.take_event-after.result.0.seat (g.D.Desk.shelf c.take_event-after.new.desk) (follows_of c.take_event-after.new.session))) inv.0 c.take_event-after.ensures.serves.1) (search rules),
      appends_then _ _ _ inv.2 (written_for c.take_event-after.result.1) inv.5 (search rules),
    )

pub returns : goal.returns
returns g c =
    let inv = c.loop.invariant in (
      follows_of c.loop.session,
      inr (record {
        events = inv.1;
        lines = inv.2;
        goes_on = inv.4;
        count = search rules;
        wrote = inv.5;
        shuts = refl;
        fault = refl;
      }),
    )
