-- The law by its lemma, which takes that a history has one view.
use Rattle.wq_crawl.specs.Basis.{basis_of}
use Rattle.wq_headline.proofs.Events.{events_are_runs}
use Rattle.wq_headline.proofs.served.events_are_runs.Goals as goal

pub returns : goal.returns
returns g c run = events_are_runs c.history_has_one_view.ensures (basis_of run (g.N.Witness.published g.N.Named.book) (g.N.Witness.refused g.N.Named.book))
