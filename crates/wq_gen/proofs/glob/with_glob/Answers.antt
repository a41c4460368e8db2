-- There are no patterns.
use Rattle.std.proofs.Common.{None, refl, sym, ap, ◌∙◌}
use Rattle.wq_view.specs.Position.{positions_of}
use Rattle.wq_gen.specs.Candidate.{gives, is_fitting}
use Rattle.wq_gen.proofs.Positions.{none_given}
use Rattle.wq_gen.proofs.glob.with_glob.Goals as goal

pub returns-in-None-clause-found : goal.returns-in-None-clause-found
returns-in-None-clause-found g c =
    c.new.ensures.items ∙ none_given (gives is_fitting None) c.args.counted.now.view.records (λ r. refl) ∙ ap (λ o. positions_of (gives is_fitting o) c.args.counted.now.view.records) (sym c.in-None.is)
