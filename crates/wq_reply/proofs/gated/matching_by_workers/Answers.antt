-- The candidates that the program keeps match.
use Rattle.std.proofs.Common.{rules, ◌≡◌, ℕ, None, Vec, Global, refl, ◌∙◌}
use Rattle.std.proofs.lemmas.Result.{IfOk-weaker}
use Rattle.wq_view.specs.Position.{positions_of}
use Rattle.wq_gen.specs.Candidate.{is_candidate}
use Rattle.wq_reply.specs.Listing.{generators_of, is_match}
use Rattle.wq_reply.specs.Meaning.{SaysMeaning}
use Rattle.wq_reply.specs.Plan.{planned}
use Rattle.wq_reply.proofs.Places.{places_kept}
use Rattle.wq_reply.proofs.Searches.{found_is}
use Rattle.wq_reply.proofs.gated.matching_by_workers.Goals as goal

pub returns : goal.returns
returns g c =
    let records = c.args.view.now.records in
    let plan = planned c.args.plan.now in
    let raw = c.args.plan.now.program.value in
    let says : (plan.query).program ≡ None → SaysMeaning raw (plan.query).expression = search rules in
    let test = is_candidate (generators_of plan) in
    let there = found_is (λ (v : Vec ℕ Global). v.items ≡ positions_of test records) c.candidates_of.result c.in_ok-places.places
    c.candidates_of.ensures.places c.in_ok-places.ensures in
    IfOk-weaker c.kept_by_workers.result _ (λ kept. kept.items ≡ positions_of (is_match plan) records)
    (λ kept is. is ∙ places_kept plan raw c.deref.result.now records c.deref-2.result.now refl c.deref.ensures says (c.deref-2.ensures.value ∙ there))
    c.kept_by_workers.ensures
