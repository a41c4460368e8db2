-- The law by its lemma.
use Rattle.wq_crawl.specs.Basis.{basis_of}
use Rattle.wq_session.proofs.Handing.{takes_all_handed}
use Rattle.wq_session.proofs.law.takes_all_handed.Goals as goal

pub returns : goal.returns
returns g c run =
    takes_all_handed (basis_of run (g.N.Witness.published g.N.Named.book) (g.N.Witness.refused g.N.Named.book))
