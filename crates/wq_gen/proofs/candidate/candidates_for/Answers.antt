-- The looks are counted from none on.
use Rattle.std.proofs.Common.{◌≡◌, IfOk, subst}
use Rattle.wq_view.specs.Position.{positions_of}
use Rattle.wq_gen.specs.Candidate.{is_candidate}
use Rattle.wq_gen.specs.Counted.{CountedData}
use Rattle.wq_gen.proofs.candidate.candidates_for.Goals as goal

pub returns : goal.returns
returns g c = subst (λ (d : CountedData). IfOk c.candidates_counted_for.result (λ found. found.items ≡ positions_of (is_candidate c.args.generators.now) d.view.records)) c.of-counted.ensures c.candidates_counted_for.ensures.found
