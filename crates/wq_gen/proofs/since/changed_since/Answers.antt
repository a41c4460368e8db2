-- There is no bound, or a fresh one.
use Rattle.std.proofs.Common.{Some, None, refl, sym, ap, ◌∙◌}
use Rattle.wq_clock.specs.declared.bound.Bound.TheVariants.{Fresh}
use Rattle.wq_view.specs.Position.{positions_of}
use Rattle.wq_gen.specs.Candidate.{changed_since, gives}
use Rattle.wq_gen.proofs.Positions.{none_given}
use Rattle.wq_gen.proofs.since.changed_since.Goals as goal

pub returns-in_default-clause-found : goal.returns-in_default-clause-found
returns-in_default-clause-found c =
    c.new.ensures.items ∙ none_given (gives changed_since None) c.args.counted.now.view.records (λ r. refl) ∙ ap (λ o. positions_of (gives changed_since o) c.args.counted.now.view.records) (sym c.in_default.is)

pub returns-in-Fresh-clause-found : goal.returns-in-Fresh-clause-found
returns-in-Fresh-clause-found c =
    c.new-in-Fresh.ensures.items ∙ none_given (gives changed_since (Some Fresh)) c.args.counted.now.view.records (λ r. refl) ∙ ap (λ o. positions_of (gives changed_since o) c.args.counted.now.view.records) (sym (c.in-Some.is ∙ ap Some c.in-Fresh.is))
