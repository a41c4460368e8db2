-- The files that a plan lists: one filter over the records of the view, in their order. From
-- Watchman's documentation of file queries and of clockspecs.
use Rattle.std.specs.Prelude.{Bool, true, not, ◌&&◌, ◌||◌, nat_lt, int_lt}
use Rattle.std.specs.Prelude.{Option, Some, None}
use Rattle.std.specs.Prelude.{if◌then◌else◌, List, [], filter, ℕ, ◌<◌, length}
use Rattle.std.specs.List.{All}
use Rattle.wq_clock.specs.Bound.{is_fresh}
use Rattle.wq_clock.specs.declared.bound.Bound.{Bound}
use Rattle.wq_clock.specs.declared.bound.Bound.TheVariants.{Fresh, Tick, Second}
use Rattle.wq_record.specs.RecordData.{RecordData}
use Rattle.wq_code.specs.declared.raw.Raw.{Raw}
use Rattle.wq_eval.specs.Answer.{says_yes}
use Rattle.wq_gen.specs.Candidate.{is_candidate}
use Rattle.wq_term.specs.declared.generators.Generators.{Generators}
use Rattle.wq_term.specs.Expr.{ExprData, means}
use Rattle.wq_reply.specs.Plan.{PlanData}

-- whether the file came after the bound
abbrev pub is_new : Bound → RecordData → Bool
is_new Fresh r = true
is_new (Tick t) r = nat_lt t r.ctick
is_new (Second s) r = int_lt s r.csec

-- the generators of a plan's candidates: its bound, and the suffixes, paths and patterns of its
-- query
abbrev pub generators_of : PlanData → Generators
generators_of plan = record {
  since = Some plan.bound;
  suffix = (plan.query).suffix;
  path = (plan.query).path;
  glob = (plan.query).glob;
}

-- whether the program answers yes for the file, or the expression matches it if there is none
abbrev pub is_meant : Option Raw → ExprData → RecordData → Bool
is_meant (Some raw) t r = says_yes raw r
is_meant None t r = means t r

-- whether the file is a candidate, and the plan's program or else its query's expression matches it
abbrev pub is_match : PlanData → RecordData → Bool
is_match plan r =
    is_candidate (generators_of plan) r && is_meant plan.program (plan.query).expression r

-- whether the file is a candidate that matches, and exists if the bound is fresh
abbrev pub is_listed : PlanData → RecordData → Bool
is_listed plan r = is_match plan r && (not (is_fresh plan.bound) || r.exists)

-- whether the list is to be empty, whatever files there are
abbrev pub lists_nothing : PlanData → Bool
lists_nothing plan = is_fresh plan.bound && ((plan.query).options).empty_on_fresh_instance

-- the files that a plan lists of these records
abbrev pub files_of : PlanData → List RecordData → List RecordData
files_of plan records = if lists_nothing plan then [] else filter (is_listed plan) records

-- whether each of these places is one of a record
abbrev pub AreWithin : List RecordData → List ℕ → Type 0
AreWithin records places = All (λ place. place < length records) places
