-- The candidates that the program keeps match.
use Rattle.std.proofs.Common.{rules, ◌≡◌, None, refl, ◌∙◌}
use Rattle.std.proofs.lemmas.Result.{IfOk-weaker}
use Rattle.wq_view.specs.Position.{positions_of}
use Rattle.wq_reply.specs.Listing.{is_match}
use Rattle.wq_reply.specs.Meaning.{SaysMeaning}
use Rattle.wq_reply.specs.Plan.{planned}
use Rattle.wq_reply.proofs.Places.{places_kept}
use Rattle.wq_reply.proofs.listing.matching.Goals as goal

pub returns-clause-places : goal.returns-clause-places
returns-clause-places g c =
    let records = c.args.view.now.records in
    let plan = planned c.args.plan.now in
    let raw = c.args.plan.now.program.value in
    let says : (plan.query).program ≡ None → SaysMeaning raw (plan.query).expression = search rules in
    IfOk-weaker c.kept.result _ (λ kept. kept.items ≡ positions_of (is_match plan) records)
    (λ kept is. is ∙ places_kept plan raw c.deref.result.now records c.deref-2.result.now refl c.deref.ensures says (c.deref-2.ensures.value ∙ c.in_ok-places.ensures.places))
    c.kept.ensures.kept
