-- The results of reading a query in the code, for which memory may run out. No public document
-- defines it.
use Rattle.std.specs.Prelude.{◌≡◌, ℕ, List, Option, Some, None, Result, Ok, Err, Vec}
use Rattle.std.specs.declared.alloc.Global.{Global}
use Rattle.wq_glob.specs.Pattern.{PatternData}
use Rattle.wq_term.specs.declared.expr.Expr.{Expr}
use Rattle.wq_term.specs.declared.fault.TermFault.{TermFault}
use Rattle.wq_term.specs.Expr.{ExprData, term_of}
use Rattle.wq_query.specs.declared.fault.QueryFault.{QueryFault}
use Rattle.wq_query.specs.declared.fault.QueryFault.TheVariants.{Expression, UnknownField, BadGenerator}
use Rattle.wq_query.specs.declared.fault.QueryFault.TheVariants.{BadClockSpec, WrongValue, NoMemory}
use Rattle.wq_query.specs.declared.fault.QueryFault.TheVariants.{PatternTooLong}
use Rattle.wq_query.specs.declared.field.Field.{Field}
use Rattle.wq_query.specs.declared.query.Query.{Query}
use Rattle.wq_query.specs.declared.query.QuerySince.{QuerySince}
use Rattle.wq_query.specs.Query.{QueryData, SinceData, asked_of, since_data}

-- the result of the code is this answer, or the memory ran out
abbrev pub GivesQuery : Result Query QueryFault → Result QueryData QueryFault → Type 0
GivesQuery (Ok query) answer = answer ≡ Ok (asked_of query)
GivesQuery (Err NoMemory) answer = Unit {0}
GivesQuery (Err fault) answer = answer ≡ Err fault

-- the same of an expression
abbrev pub GivesExpression : Result Expr QueryFault → Result ExprData TermFault → Type 0
GivesExpression (Ok e) answer = answer ≡ Ok (term_of e)
GivesExpression (Err (Expression fault)) answer = answer ≡ Err fault
GivesExpression (Err NoMemory) answer = Unit {0}
GivesExpression (Err _) answer = ⊥

-- the same of a list of fields
abbrev pub GivesFields : Result (Vec Field Global) QueryFault → Option (List Field) → Type 0
GivesFields (Ok fields) answer = answer ≡ Some fields.items
GivesFields (Err UnknownField) answer = answer ≡ None
GivesFields (Err NoMemory) answer = Unit {0}
GivesFields (Err _) answer = ⊥

-- the same of a generator, or of a part of one
abbrev pub GivesGenerator : {A : Type 0} → Result A QueryFault → Option A → Type 0
GivesGenerator (Ok generator) answer = answer ≡ Some generator
GivesGenerator (Err BadGenerator) answer = answer ≡ None
GivesGenerator (Err NoMemory) answer = Unit {0}
GivesGenerator (Err _) answer = ⊥

-- the same of patterns, or of one pattern, of texts
abbrev pub GivesPattern : {A : Type 0} → Result A QueryFault → Option A → Type 0
GivesPattern (Ok pattern) answer = answer ≡ Some pattern
GivesPattern (Err PatternTooLong) answer = answer ≡ None
GivesPattern (Err NoMemory) answer = Unit {0}
GivesPattern (Err _) answer = ⊥

-- the same of the patterns of a query
abbrev pub GivesGlobs : Result (Option (List PatternData)) QueryFault
    → Result (Option (List PatternData)) QueryFault → Type 0
GivesGlobs (Ok patterns) answer = answer ≡ Ok patterns
GivesGlobs (Err NoMemory) answer = Unit {0}
GivesGlobs (Err fault) answer = answer ≡ Err fault

-- the same of the point from which changes are asked for
abbrev pub GivesSince : Result QuerySince QueryFault → Option SinceData → Type 0
GivesSince (Ok since) answer = answer ≡ Some (since_data since)
GivesSince (Err BadClockSpec) answer = answer ≡ None
GivesSince (Err NoMemory) answer = Unit {0}
GivesSince (Err _) answer = ⊥

-- the same of the name of a program
abbrev pub GivesProgram : Result (Option (List ℕ)) QueryFault → Option (Option (List ℕ)) → Type 0
GivesProgram (Ok name) answer = answer ≡ Some name
GivesProgram (Err WrongValue) answer = answer ≡ None
GivesProgram (Err NoMemory) answer = Unit {0}
GivesProgram (Err _) answer = ⊥
