-- The plans of answering queries, as the type `Plan` holds them. Programs are this server's own.
use Rattle.std.specs.Prelude.{Option, option_map}
use Rattle.wq_clock.specs.declared.bound.Bound.{Bound}
use Rattle.wq_code.specs.declared.raw.Raw.{Raw}
use Rattle.wq_query.specs.Query.{QueryData, since_data}
use Rattle.wq_term.specs.Expr.{term_of}
use Rattle.wq_reply.specs.declared.plan.Plan.{Plan}

-- a query, the bound with which it is answered, and the program that was kept under the name that
-- the query has for one
pub record PlanData : Type 0 where
  pub query : QueryData
  pub bound : Bound
  pub program : Option Raw

-- the program of a `Plan`, which says which files match, whether the query names it or not
abbrev pub program_in : Plan → Raw
program_in plan = (plan.program).value

-- the data of a `Plan`: its query, its bound, and its program if the query names one
abbrev pub planned : Plan → PlanData
planned plan = record {
  query = record {
    expression = term_of (plan.expr).value;
    program = (plan.program_name).value;
    fields = (plan.fields).items;
    since = since_data (plan.since).value;
    suffix = (plan.generators).suffix;
    path = (plan.generators).path;
    glob = (plan.generators).glob;
    options = plan.options;
  };
  bound = plan.bound;
  program = option_map (λ _. (plan.program).value) (plan.program_name).value;
}
