-- Each need was met.
use Rattle.std.proofs.Common.{None, Ok, ap, refl, subst, sym}
use Rattle.wq_crawl.specs.Basis.{basis_of}
use Rattle.wq_crawl.specs.Meeting.{IsMet}
use Rattle.wq_crawl.specs.Ready.{known}
use Rattle.wq_crawl.specs.Need.{need_data}
use Rattle.wq_crawl.proofs.Needs.{met_by_crawl, met_by_look, met_by_open}
use Rattle.wq_crawl.proofs.seat_views.meet.Goals as goal

pub returns-in-Nothing : goal.returns-in-Nothing
returns-in-Nothing g c =
    let basis = basis_of c.args.run (g.N.Witness.published g.N.Named.book) (g.N.Witness.refused g.N.Named.book) in
    let now = known (g.R.Roots.crawler c.args.roots.now) c.args.seat in
    subst (λ n. IsMet basis n now (Ok None) now) (sym (ap need_data c.in-Nothing.is)) (Ok None, (refl, refl), refl)

pub returns-in-Look : goal.returns-in-Look
returns-in-Look g c =
    let basis = basis_of c.args.run (g.N.Witness.published g.N.Named.book) (g.N.Witness.refused g.N.Named.book) in
    let given = g.R.Roots.crawler c.args.roots.now in
    subst (λ n. IsMet basis n (known given c.args.seat) c.look_at.result.1 (known given c.look_at.result.0)) (sym (ap need_data c.in-Look.is))
    (met_by_look basis c.in-Look.root.now c.args.seat c.look_at.result.0 c.look_at.result.1 given c.look_at.ensures)

pub returns-in-Crawl : goal.returns-in-Crawl
returns-in-Crawl g c =
    let basis = basis_of c.args.run (g.N.Witness.published g.N.Named.book) (g.N.Witness.refused g.N.Named.book) in
    let given = g.R.Roots.crawler c.args.roots.now in
    let later = g.R.Roots.crawler c.crawl-told.new.roots in
    let it = c.learn_and_look.result in
    subst (λ n. IsMet basis n (known given c.args.seat) it.1 (known later it.0)) (sym (ap need_data c.in-Crawl.is))
    (met_by_crawl basis c.in-Crawl.root.now c.args.seat it.0 it.1 c.crawl-told.result given later c.crawl-told.ensures c.learn_and_look.ensures)

pub returns-in-Open : goal.returns-in-Open
returns-in-Open g c =
    let basis = basis_of c.args.run (g.N.Witness.published g.N.Named.book) (g.N.Witness.refused g.N.Named.book) in
    let given = g.R.Roots.crawler c.args.roots.now in
    let later = g.R.Roots.crawler c.open-told.new.roots in
    let it = c.learn_and_look-in-Open.result in
    subst (λ n. IsMet basis n (known given c.args.seat) it.1 (known later it.0)) (sym (ap need_data c.in-Open.is))
    (met_by_open basis c.in-Open.root.now c.args.seat it.0 it.1 c.open-told.result given later c.open-told.ensures c.learn_and_look-in-Open.ensures)
