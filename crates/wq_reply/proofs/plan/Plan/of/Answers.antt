-- The program answers the meaning of the expression within its measure, if the query names none. The snapshots are of
-- the query's parts.
use Rattle.std.proofs.Common.{rules, ◌≡◌, None, sym, subst, ◌∙◌}
use Rattle.wq_verify.specs.Typing.{IsValid}
use Rattle.wq_term.specs.Expr.{term_of}
use Rattle.wq_query.specs.Query.{QueryData}
use Rattle.wq_reply.specs.Meaning.{AnswersWithin}
use Rattle.wq_reply.proofs.Places.{keeps_unnamed, says_unnamed}
use Rattle.wq_reply.proofs.plan.Plan.of.Goals as goal

pub invariant_of-result-clause-meaning : goal.invariant_of-result-clause-meaning
invariant_of-result-clause-meaning c =
    let name = c.of-2.result.value in
    let expr = c.of.result.value in
    let raw = c.args.program.value in
    let valid : IsValid raw = search rules in
    let known = subst (λ (q : QueryData). q.program ≡ None → AnswersWithin raw q.expression) (sym c.into_parts-expr.ensures) c.requires in
    let answers = subst (λ e. name ≡ None → AnswersWithin raw (term_of e)) (sym c.of.ensures) (λ none. known (sym c.of-2.ensures ∙ none)) in
    says_unnamed name raw (term_of expr) c.answers_are_said.ensures valid answers

pub invariant_of-result-clause-cost : goal.invariant_of-result-clause-cost
invariant_of-result-clause-cost c =
    let name = c.of-2.result.value in
    let expr = c.of.result.value in
    let raw = c.args.program.value in
    let valid : IsValid raw = search rules in
    let known = subst (λ (q : QueryData). q.program ≡ None → AnswersWithin raw q.expression) (sym c.into_parts-expr.ensures) c.requires in
    let answers = subst (λ e. name ≡ None → AnswersWithin raw (term_of e)) (sym c.of.ensures) (λ none. known (sym c.of-2.ensures ∙ none)) in
    keeps_unnamed name raw (term_of expr) c.answers_are_within.ensures valid answers
