-- The query that the object of a subscription asks, without generators and without a cursor. From
-- Watchman's documentation of `subscribe`; the order of faults is this server's own.
use Rattle.std.specs.Prelude.{◌≡◌, Bool, true, false, ◌||◌, is_some, codes}
use Rattle.std.specs.Prelude.{None, Result, Ok, Err, if◌then◌else◌}
use Rattle.std.specs.Option.{option_and_then}
use Rattle.serde_json.specs.Data.{Data}
use Rattle.serde_json.specs.Find.{get}
use Rattle.wq_clock.specs.Instance.{InstanceData}
use Rattle.wq_query.specs.declared.fault.QueryFault.{QueryFault}
use Rattle.wq_query.specs.declared.fault.QueryFault.TheVariants.{LeftOutKey, ExpressionAndProgram}
use Rattle.wq_query.specs.declared.fault.QueryFault.TheVariants.{Expression, UnknownField, NoMemory}
use Rattle.wq_query.specs.declared.fault.QueryFault.TheVariants.{BadGenerator, BadClockSpec}
use Rattle.wq_query.specs.Query.{QueryData, since_cursor}
use Rattle.wq_query.specs.Reading.{asks, cursor_in}

-- whether an object has a key of a generator, whatever its value is
abbrev pub has_generator : Data → Bool
has_generator d =
    is_some (get (codes "suffix") d) || is_some (get (codes "path") d)
    || is_some (get (codes "glob") d)

-- whether `since` says a cursor
abbrev pub has_cursor : Data → Bool
has_cursor d = is_some (option_and_then cursor_in (get (codes "since") d))

-- whether a fault of a query is told before a generator is
abbrev pub comes_first : QueryFault → Bool
comes_first LeftOutKey = true
comes_first ExpressionAndProgram = true
comes_first (Expression fault) = true
comes_first UnknownField = true
comes_first NoMemory = true
comes_first _ = false

-- whether reading an object as a query gives such a fault
abbrev pub fails_first : Result QueryData QueryFault → Bool
fails_first (Ok query) = false
fails_first (Err fault) = comes_first fault

-- the query of a subscription, from the query that its object asks, whether that has a generator
-- and whether it has a cursor
abbrev pub without_generators : Result QueryData QueryFault → Bool → Bool
    → Result QueryData QueryFault
without_generators asked generator cursor =
    if fails_first asked then asked
    else if generator then Err BadGenerator
    else if cursor then Err BadClockSpec else asked

-- the query that the object of a subscription asks at an instance: its faults are looked for in
-- this order
abbrev pub subscribes : InstanceData → Data → Result QueryData QueryFault
subscribes instance d = without_generators (asks instance d) (has_generator d) (has_cursor d)

-- a query has neither suffixes nor paths nor patterns, and no cursor
pub record HasBoundAlone (query : QueryData) : Type 0 where
  pub suffix : query.suffix ≡ None
  pub path : query.path ≡ None
  pub glob : query.glob ≡ None
  pub since : since_cursor query.since ≡ None

-- each query of a subscription is of this kind
abbrev pub SubscriptionsArePlain : Type 0
SubscriptionsArePlain = (instance : InstanceData) (d : Data) (query : QueryData)
    → subscribes instance d ≡ Ok query → HasBoundAlone query
