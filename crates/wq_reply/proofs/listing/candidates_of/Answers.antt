-- The candidates are places of the view, and no more than its records.
use Rattle.std.proofs.Common.{◌≡◌, ◌<◌, ◌≤◌, All, length, sym, ap, subst, ◌∙◌, arith}
use Rattle.std.proofs.lemmas.Result.{IfOk-weaker}
use Rattle.wq_view.specs.Limit.{max_records}
use Rattle.wq_view.specs.Position.{positions_of}
use Rattle.wq_gen.specs.Candidate.{is_candidate}
use Rattle.wq_reply.specs.Listing.{AreWithin, generators_of}
use Rattle.wq_reply.specs.Plan.{planned}
use Rattle.wq_reply.proofs.listing.candidates_of.Goals as goal

pub returns-clause-places : goal.returns-clause-places
returns-clause-places g c =
    let records = c.args.view.now.records in
    let test = is_candidate (generators_of (planned c.args.plan.now)) in
    IfOk-weaker c.candidates.result _ (λ places. places.items ≡ positions_of test records)
    (λ places is. is ∙ ap (λ g. positions_of (is_candidate g) records) c.generators.ensures) c.candidates.ensures.found

pub returns-clause-within : goal.returns-clause-within
returns-clause-within g c =
    let records = c.args.view.now.records in
    let test = is_candidate (generators_of (planned c.args.plan.now)) in
    IfOk-weaker c.candidates.result _ (λ places. AreWithin records places.items)
    (λ places is. subst (All (λ i. i < length records))
    (sym (is ∙ ap (λ g. positions_of (is_candidate g) records) c.generators.ensures)) (c.positions_are_there.ensures test records).0) c.candidates.ensures.found

pub returns-clause-count : goal.returns-clause-count
returns-clause-count g c =
    let records = c.args.view.now.records in
    let test = is_candidate (generators_of (planned c.args.plan.now)) in
    let few = c.len.ensures.bound in
    let all = c.len.ensures.value in
    let there = (c.positions_are_there.ensures test records).1 in
    let most : length (positions_of test records) ≤ max_records = omega (arith, few, all, there) in
    IfOk-weaker c.candidates.result _ (λ places. length places.items ≤ max_records)
    (λ places is. subst (λ n. n ≤ max_records) (sym (ap length (is ∙ ap (λ g. positions_of (is_candidate g) records) c.generators.ensures))) most) c.candidates.ensures.found
