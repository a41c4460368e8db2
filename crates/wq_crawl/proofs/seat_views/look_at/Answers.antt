-- There was no share of the view, and memory ran out.
use Rattle.std.proofs.Common.{Err, List, Some, inl, refl, subst, sym}
use Rattle.wq_crawl.specs.declared.fault.CrawlFault.TheVariants.{NoMemory}
use Rattle.wq_live.specs.declared.event.RootEvent.{RootEvent}
use Rattle.wq_crawl.specs.Basis.{basis_of}
use Rattle.wq_crawl.specs.Meeting.{SeesRoot}
use Rattle.wq_crawl.proofs.seat_views.look_at.Goals as goal

pub returns-in-Err-shared : goal.returns-in-Err-shared
returns-in-Err-shared g c =
    let basis = basis_of c.args.run (g.N.Witness.published g.N.Named.book) (g.N.Witness.refused g.N.Named.book) in
    let short = c.in-Err-shared.ensures.short in
    subst (λ (looked : List RootEvent). SeesRoot basis c.args.root.now c.args.seat (Err NoMemory) looked) (sym c.leave-seat.ensures)
    (Some short.0, inl (c.in-Ok.ensures.begins, short.1, c.in-Ok.ensures.published), refl)
