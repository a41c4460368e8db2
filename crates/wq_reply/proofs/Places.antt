-- The places of the files that a plan lists.
use Rattle.std.proofs.Common.{◌≡◌, ◌≤◌, ℕ, zero, suc, length, Bool, true, false, not, List, [], ◌∷◌, Option, Some, None, option_map, refl, sym, ap, subst, ◌∙◌, arith}
use Rattle.std.proofs.lemmas.List.Sums.{sum_by-cons}
use Rattle.std.specs.Prelude.{All, ◌&&◌, ◌||◌, filter, slice_get, if◌then◌else◌}
use Rattle.std.specs.Option.{option_map_or}
use Rattle.std.proofs.lemmas.List.Elements.{filter_agree}
use Rattle.wq_record.specs.Limit.{max_name}
use Rattle.wq_record.specs.RecordData.{RecordData}
use Rattle.wq_view.specs.Position.{passes_at, positions_of, all_positions}
use Rattle.wq_code.specs.declared.raw.Raw.{Raw}
use Rattle.wq_verify.specs.Typing.{IsValid}
use Rattle.wq_compile.specs.Meaning.{AnswersMeaning}
use Rattle.wq_eval.specs.Answer.{AnswersAreSaid, says_yes}
use Rattle.wq_eval.specs.Cost.{AnswersAreWithin, steps_of}
use Rattle.wq_clock.specs.Bound.{is_fresh}
use Rattle.wq_clock.specs.declared.bound.Bound.{Bound}
use Rattle.wq_gen.specs.Candidate.{is_candidate}
use Rattle.wq_term.specs.declared.generators.Generators.{Generators}
use Rattle.wq_term.specs.Expr.{ExprData, means}
use Rattle.wq_reply.specs.Listing.{generators_of, is_listed, is_match, is_meant}
use Rattle.wq_reply.specs.Meaning.{AnswersWithin, KeepsMeasure, SaysMeaning}
use Rattle.wq_reply.specs.Plan.{PlanData}

-- a program that answers the meaning of an expression says it
pub says_meaning : (raw : Raw) (t : ExprData) → AnswersAreSaid → IsValid raw → AnswersMeaning raw t → SaysMeaning raw t
says_meaning raw t law valid answers r = sym (law raw r (means t r) (answers r).0 valid (answers r).1)

-- the same of the program of a query that names none
pub says_unnamed : (name : Option (List ℕ)) (raw : Raw) (t : ExprData) → AnswersAreSaid → IsValid raw
    → (name ≡ None → AnswersWithin raw t) → name ≡ None → SaysMeaning raw t
says_unnamed name raw t law valid answers none = says_meaning raw t law valid (answers none).0

-- a program whose budget is within the measure of an expression keeps that measure
pub keeps_measure : (raw : Raw) (t : ExprData) → AnswersAreWithin → IsValid raw → AnswersWithin raw t → KeepsMeasure raw t
keeps_measure raw t law valid answers r short =
    let all = law raw (r ∷ []) valid (alone short) in
    let one = sum_by-cons (steps_of raw) r [] in
    let cheap = answers.1 in
    omega (arith, all, one, cheap)
  where
    alone : length r.name ≤ max_name → All (λ r. length r.name ≤ max_name) (r ∷ [])
    alone short zero d less = short
    alone short (suc k) d less = absurd (omega (arith, less))

-- the same of the program of a query that names none
pub keeps_unnamed : (name : Option (List ℕ)) (raw : Raw) (t : ExprData) → AnswersAreWithin → IsValid raw
    → (name ≡ None → AnswersWithin raw t) → name ≡ None → KeepsMeasure raw t
keeps_unnamed name raw t law valid answers none = keeps_measure raw t law valid (answers none)

-- the program of a plan decides which files match. It is the one of the query's name; if the query has none, it answers
-- the meaning of the expression
pub program_decides : (name : Option (List ℕ)) (raw : Raw) (t : ExprData) → (name ≡ None → SaysMeaning raw t)
    → (r : RecordData) → says_yes raw r ≡ is_meant (option_map (λ _. raw) name) t r
program_decides None raw t says r = says refl r
program_decides (Some name) raw t says r = refl

-- generators with this bound
pub with_bound : (g : Generators) (bound : Bound) → g.since ≡ Some bound
    → g ≡ record { since = Some bound; suffix = g.suffix; path = g.path; glob = g.glob }
with_bound g bound is = ap (λ since. record { since = since; suffix = g.suffix; path = g.path; glob = g.glob }) is

-- two filters are one
filter-both : (p q : ℕ → Bool) (xs : List ℕ) → filter q (filter p xs) ≡ filter (λ x. p x && q x) xs
filter-both p q [] = refl
filter-both p q (x ∷ xs) = at (p x) (filter-both p q xs)
  where
    at : (a : Bool) → filter q (filter p xs) ≡ filter (λ y. p y && q y) xs
        → filter q (if a then x ∷ filter p xs else filter p xs)
        ≡ (if a && q x then x ∷ filter (λ y. p y && q y) xs else filter (λ y. p y && q y) xs)
    at true h = ap (λ ys. if q x then x ∷ ys else ys) h
    at false h = h

-- of the places that pass one test, those that pass another
passing : (p q whole : RecordData → Bool) (records : List RecordData) → ((r : RecordData) → (p r && q r) ≡ whole r)
    → filter (passes_at q records) (positions_of p records) ≡ positions_of whole records
passing p q whole records same =
    filter-both (passes_at p records) (passes_at q records) (all_positions records)
    ∙ filter_agree (λ i. passes_at p records i && passes_at q records i) (passes_at whole records)
    (λ i. at (slice_get records i)) (all_positions records)
  where
    at : (o : Option RecordData) → (option_map_or p o false && option_map_or q o false) ≡ option_map_or whole o false
    at None = refl
    at (Some r) = same r

-- the candidates for which the program answers yes are those that match
pub places_matching : (plan : PlanData) (raw : Raw) (records : List RecordData)
    → ((r : RecordData) → says_yes raw r ≡ is_meant plan.program (plan.query).expression r)
    → filter (passes_at (says_yes raw) records) (positions_of (is_candidate (generators_of plan)) records)
    ≡ positions_of (is_match plan) records
places_matching plan raw records decides =
    passing (is_candidate (generators_of plan)) (says_yes raw) (is_match plan) records
    (λ r. ap (λ b. is_candidate (generators_of plan) r && b) (decides r))

-- the program keeps the places of the files that match, out of those of the candidates
pub places_kept : (plan : PlanData) (raw program : Raw) (records : List RecordData) (places : List ℕ)
    → plan.program ≡ option_map (λ _. raw) (plan.query).program → program ≡ raw
    → ((plan.query).program ≡ None → SaysMeaning raw (plan.query).expression)
    → places ≡ positions_of (is_candidate (generators_of plan)) records
    → filter (passes_at (says_yes program) records) places ≡ positions_of (is_match plan) records
places_kept plan raw program records places named same says there =
    let Decides : Raw → Option Raw → Type 0 = λ p o. (r : RecordData) → says_yes p r ≡ is_meant o (plan.query).expression r in
    let decides : Decides raw (option_map (λ _. raw) (plan.query).program) = program_decides (plan.query).program raw (plan.query).expression says in
    ap (filter (passes_at (says_yes program) records)) there
    ∙ places_matching plan program records
    (subst (Decides program) (sym named) (subst (λ p. Decides p (option_map (λ _. raw) (plan.query).program)) (sym same) decides))

-- at a fresh bound, the files that match and exist are listed
pub places_existing : (plan : PlanData) (records : List RecordData) → is_fresh plan.bound ≡ true
    → filter (passes_at (λ r. r.exists) records) (positions_of (is_match plan) records) ≡ positions_of (is_listed plan) records
places_existing plan records fresh =
    passing (is_match plan) (λ r. r.exists) (is_listed plan) records
    (λ r. ap (λ b. is_match plan r && (not b || r.exists)) (sym fresh))

-- at another bound, all files that match are listed
pub places_listed : (plan : PlanData) (records : List RecordData) → is_fresh plan.bound ≡ false
    → positions_of (is_match plan) records ≡ positions_of (is_listed plan) records
places_listed plan records other =
    filter_agree (passes_at (is_match plan) records) (passes_at (is_listed plan) records)
    (λ i. at (slice_get records i)) (all_positions records)
  where
    and-true : (b : Bool) → b ≡ (b && true)
    and-true true = refl
    and-true false = refl

    at : (o : Option RecordData) → option_map_or (is_match plan) o false ≡ option_map_or (is_listed plan) o false
    at None = refl
    at (Some r) = and-true (is_match plan r) ∙ ap (λ b. is_match plan r && (not b || r.exists)) (sym other)
