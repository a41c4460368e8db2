-- The law by its lemma.
use Rattle.wq_crawl.specs.Basis.{basis_of}
use Rattle.wq_headline.proofs.Sessions.{alone_goes_on}
use Rattle.wq_headline.proofs.served.alone_goes_on.Goals as goal

pub returns : goal.returns
returns g c run = alone_goes_on (basis_of run (g.N.Witness.published g.N.Named.book) (g.N.Witness.refused g.N.Named.book))
