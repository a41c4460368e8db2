-- The law by its lemma, which takes that a history has one view.
use Rattle.wq_crawl.specs.Basis.{basis_of}
use Rattle.wq_headline.proofs.Sessions.{going_on_is_a_run}
use Rattle.wq_headline.proofs.served.going_on_is_a_run.Goals as goal

pub returns : goal.returns
returns g c run = going_on_is_a_run c.history_has_one_view.ensures (basis_of run (g.N.Witness.published g.N.Named.book) (g.N.Witness.refused g.N.Named.book))
