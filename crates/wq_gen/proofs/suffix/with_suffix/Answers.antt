-- There are no suffixes.
use Rattle.std.proofs.Common.{None, refl, sym, ap, ◌∙◌}
use Rattle.wq_view.specs.Position.{positions_of}
use Rattle.wq_gen.specs.Candidate.{gives, suffix_is_among}
use Rattle.wq_gen.proofs.Positions.{none_given}
use Rattle.wq_gen.proofs.suffix.with_suffix.Goals as goal

pub returns-in-None-clause-found : goal.returns-in-None-clause-found
returns-in-None-clause-found c =
    c.new.ensures.items ∙ none_given (gives suffix_is_among None) c.args.counted.now.view.records (λ r. refl) ∙ ap (λ o. positions_of (gives suffix_is_among o) c.args.counted.now.view.records) (sym c.in-None.is)
