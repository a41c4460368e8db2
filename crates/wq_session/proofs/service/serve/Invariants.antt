-- As many events were taken as turns were made, the session went on after each, and their lines were written.
use Rattle.std.proofs.Common.{◌≡◌, ℕ, List, [], length}
use Rattle.std.specs.Io.KnownBytes.{Appends}
use Rattle.wq_stream.specs.declared.event.Event.{Event}
use Rattle.wq_session.specs.Followed.{follows_of}
use Rattle.wq_crawl.specs.Basis.{basis_of}
use Rattle.wq_session.specs.Serving.{GoesOn, place}
use Rattle.wq_session.proofs.service.serve.Given as goal

abbrev pub invariant-loop : goal.invariant-loop
invariant-loop g l = (l.views.run ≡ l.fn.views.run) × (events : List Event) × (lines : List ℕ) × (length events ≡ l.counter)
    × GoesOn (basis_of l.fn.views.run (g.N.Witness.published g.N.Named.book) (g.N.Witness.refused g.N.Named.book)) (place (g.I.Inbox.shown l.fn.inbox) (g.R.Roots.crawler l.fn.views.roots) l.fn.views.seat (g.D.Desk.shelf l.fn.desk) []) events lines
    (place (g.I.Inbox.shown l.inbox) (g.R.Roots.crawler l.views.roots) l.views.seat (g.D.Desk.shelf l.desk) (follows_of l.session))
    × Appends (g.W.Write.contents l.fn.writer) (g.W.Write.contents l.writer) lines
