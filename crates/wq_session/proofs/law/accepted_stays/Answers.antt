-- The law by its lemma, which takes that of answers.
use Rattle.wq_crawl.specs.Basis.{basis_of}
use Rattle.wq_session.proofs.Staying.{accepted_stays}
use Rattle.wq_session.proofs.law.accepted_stays.Goals as goal

pub returns : goal.returns
returns g c run =
    accepted_stays c.answers_are_calls.ensures (basis_of run (g.N.Witness.published g.N.Named.book) (g.N.Witness.refused g.N.Named.book))
