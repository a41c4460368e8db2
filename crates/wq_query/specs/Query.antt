-- Queries, as the types `Query` and `QueryParts` hold them. The parts are keys of Watchman's
-- documentation of file queries; programs are this server's own.
use Rattle.std.specs.Prelude.{ℕ, List, Option, Some, None}
use Rattle.wq_clock.specs.declared.bound.Bound.{Bound}
use Rattle.wq_term.specs.declared.generators.PathGen.{PathGen}
use Rattle.wq_glob.specs.Pattern.{PatternData}
use Rattle.wq_term.specs.Expr.{ExprData, term_of}
use Rattle.wq_query.specs.declared.field.Field.{Field}
use Rattle.wq_query.specs.declared.options.Options.{Options}
use Rattle.wq_query.specs.declared.query.Query.{Query}
use Rattle.wq_query.specs.declared.query.QueryParts.{QueryParts}
use Rattle.wq_query.specs.declared.query.QuerySince.{QuerySince}
use Rattle.wq_query.specs.declared.query.QuerySince.TheVariants.{Bound as SinceBound, Cursor}

-- the point from which a query asks for changes: a bound, or the tick of a cursor, which is kept
-- under its name
pub data SinceData : Type 0 where
  at_bound : Bound → SinceData
  at_cursor : List ℕ → SinceData

-- the bound, if there is no cursor
abbrev pub since_bound : SinceData → Option Bound
since_bound (at_bound bound) = Some bound
since_bound (at_cursor name) = None

-- the name of the cursor, without `n:`
abbrev pub since_cursor : SinceData → Option (List ℕ)
since_cursor (at_bound bound) = None
since_cursor (at_cursor name) = Some name

-- A query asks for the files that its expression matches; if it names a program, for those for
-- which the program answers yes. It has the fields that are told of each file, and the point from
-- which changes are asked for. It has its suffixes, paths and patterns, and its options: whether the
-- list is empty if nothing is known to the client.
pub record QueryData : Type 0 where
  pub expression : ExprData
  pub program : Option (List ℕ)
  pub fields : List Field
  pub since : SinceData
  pub suffix : Option (List (List ℕ))
  pub path : Option (List PathGen)
  pub glob : Option (List PatternData)
  pub options : Options

-- the data that a `QuerySince` stands for
abbrev pub since_data : QuerySince → SinceData
since_data (SinceBound bound) = at_bound bound
since_data (Cursor name) = at_cursor name

-- the data of a `Query`
abbrev pub asked_of : Query → QueryData
asked_of query = record {
  expression = term_of query.expr;
  program = query.program;
  fields = (query.fields).items;
  since = since_data query.since;
  suffix = (query.generators).suffix;
  path = (query.generators).path;
  glob = (query.generators).glob;
  options = query.options;
}

-- the data of a query's parts
abbrev pub data_of_parts : QueryParts → QueryData
data_of_parts parts = record {
  expression = term_of parts.expr;
  program = parts.program;
  fields = (parts.fields).items;
  since = since_data parts.since;
  suffix = (parts.generators).suffix;
  path = (parts.generators).path;
  glob = (parts.generators).glob;
  options = parts.options;
}
