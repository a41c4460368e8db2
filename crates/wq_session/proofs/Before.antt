-- The beginning of `query`, of a query that was read before.
use Rattle.std.proofs.Common.{◌≡◌, ℕ, Bool, true, false, List, Option, Some, None, Result, Ok, Err, IfOk, if◌then◌else◌, refl, sym, ap, subst, ◌∙◌}
use Rattle.std.specs.Prelude.{codes, not, option_map}
use Rattle.serde_json.specs.Data.{Data, null}
use Rattle.serde_json.specs.Find.{get}
use Rattle.wq_base.specs.Fault.{or_fault, or_its_fault, or_own_fault, unless_fault}
use Rattle.wq_clock.specs.Instance.{InstanceData}
use Rattle.wq_query.specs.Outcome.{GivesQuery}
use Rattle.wq_query.specs.Query.{QueryData, asked_of}
use Rattle.wq_query.specs.declared.query.Query.{Query}
use Rattle.wq_query.specs.Reading.{asks as queries}
use Rattle.wq_query.specs.Subscribed.{comes_first, has_cursor, has_generator, subscribes, without_generators}
use Rattle.wq_query.specs.declared.fault.QueryFault.{QueryFault}
use Rattle.wq_query.specs.declared.fault.QueryFault.TheVariants.{BadGenerator, BadClockSpec}
use Rattle.wq_follow.specs.Defined.{definition_data}
use Rattle.wq_follow.specs.declared.definition.Definition.{Definition}
use Rattle.wq_follow.specs.Definition.{DefinitionData, ShapeData, defines, has_bad_length, known_part, shape_of}
use Rattle.wq_follow.specs.declared.fault.TriggerFault.{TriggerFault}
use Rattle.wq_follow.specs.declared.fault.TriggerFault.TheVariants.{BadName as BadTriggerName, Query as BadTriggerQuery}
use Rattle.wq_view.specs.View.{ViewData}
use Rattle.wq_ask.specs.Program.{is_name}
use Rattle.wq_ask.specs.declared.refusal.Refusal.{Refusal}
use Rattle.wq_ask.specs.declared.refusal.Refusal.TheVariants.{NotWatched, Query as BadQuery, BadName, NoMemory}
use Rattle.wq_ask.specs.declared.refusal.Refusal.TheVariants.{LineTooLong, Bser, NotJson, NotACommand, UnknownCommand}
use Rattle.wq_ask.specs.declared.refusal.Refusal.TheVariants.{WrongArguments, RootNotAbsolute, TooManyRoots, TooManySessions}
use Rattle.wq_ask.specs.declared.refusal.Refusal.TheVariants.{UnreadableRoot, TooManyFiles, TicksSpent, NoSuchProgram}
use Rattle.wq_ask.specs.declared.refusal.Refusal.TheVariants.{ProgramTooLarge, TooManySubscriptions, NotBase64, ShelfFull, BadTrigger, TooManyTriggers}
use Rattle.wq_ask.specs.declared.refusal.Refusal.TheVariants.{WrongFile, WrongProgram}
use Rattle.wq_crawl.specs.At.{AtData}
use Rattle.wq_session.specs.At.{ShelfNow, is_watched, watched}
use Rattle.wq_session.specs.Moment.{Shown}
use Rattle.wq_session.specs.Prepared.{GivesDefined, GivesRead, IsReadAt, IsReadShown}
use Rattle.wq_session.specs.Prepared.{IsReadThere, ObjectData}
use Rattle.wq_session.specs.Trigger.{begun_read_trigger, defined_by, begun_trigger}
use Rattle.wq_session.specs.Query.{begun_read_query, begun_query}
use Rattle.wq_session.specs.Subscribe.{begun_read_subscribe, begun_subscribe}
use Rattle.wq_session.specs.Work.{BegunData, Begins}
use Rattle.wq_session.specs.declared.read_object.ReadObject.{ReadObject}
use Rattle.wq_session.specs.declared.work.Rest.{Rest}

-- the watched root is the one that is looked at
pub there : (root : List ℕ) (at : Option AtData) (shelf : ShelfNow) (a : AtData) → watched root at shelf ≡ Some a → at ≡ Some a
there root (Some at) shelf a is = picked (is_watched root at shelf) is
  where
    picked : (test : Bool) → (if test then Some at else None) ≡ Some a → Some at ≡ Some a
    picked true is = is
    picked false is = absurd cc
there root None shelf a is = is

-- an object was read there
pub object_there : (object : ObjectData) (a : AtData) (view : ViewData) → a.view ≡ Some view
    → (read : ReadObject) → IsReadAt object (Some a) read → IsReadThere object a.instance read
unfolding IsReadAt
object_there object a view shown read said =
    subst (λ (s : Shown). IsReadShown object s read) (ap (option_map (λ (view : ViewData). (a.instance, view))) shown) said

module _ (d : Data) (shelf : ShelfNow) (a : AtData) (view : ViewData) (shown : a.view ≡ Some view) where
  -- the query of an object at a root that is shown
  pub at_view : begun_query d a shelf ≡ or_its_fault BadQuery (queries a.instance d) (λ q. begun_read_query (a.instance).root view.tick q shelf)
  at_view =
      ap (λ v. or_fault NotWatched v (λ (view : ViewData).
      or_its_fault BadQuery (queries a.instance d) (λ q. begun_read_query (a.instance).root view.tick q shelf))) shown

  -- so the query that was read begins as `query` does
  pub begins_read : (query : Query) → GivesRead (Ok query) (queries a.instance d)
      → (tick : ℕ) → tick ≡ view.tick → (result : Result Rest Refusal) (after : ShelfNow)
      → Begins (begun_read_query (a.instance).root tick (asked_of query) shelf) shelf result after
      → Begins (begun_query d a shelf) shelf result after
  begins_read query said tick told result after begins =
      subst (λ b. Begins b shelf result after)
      (sym (at_view
      ∙ ap (λ r. or_its_fault BadQuery r (λ q. begun_read_query (a.instance).root view.tick q shelf))
      said
      ∙ ap (λ t. begun_read_query (a.instance).root t (asked_of query) shelf) (sym told)))
      begins

-- the fault of an object that was read is the reason to refuse a line
refused_for : (asked : Result QueryData QueryFault) (next : QueryData → Result BegunData Refusal) (shelf : ShelfNow) (refusal : Refusal)
    → GivesRead (Err refusal) asked → Begins (or_its_fault BadQuery asked next) shelf (Err refusal) shelf
refused_for asked next shelf NoMemory said = refl
refused_for asked next shelf (BadQuery fault) said = (ap (λ r. or_its_fault BadQuery r next) said, refl)
refused_for asked next shelf LineTooLong said = elim said [ ]
refused_for asked next shelf Bser said = elim said [ ]
refused_for asked next shelf NotJson said = elim said [ ]
refused_for asked next shelf NotACommand said = elim said [ ]
refused_for asked next shelf UnknownCommand said = elim said [ ]
refused_for asked next shelf WrongArguments said = elim said [ ]
refused_for asked next shelf RootNotAbsolute said = elim said [ ]
refused_for asked next shelf NotWatched said = elim said [ ]
refused_for asked next shelf BadName said = elim said [ ]
refused_for asked next shelf TooManyRoots said = elim said [ ]
refused_for asked next shelf TooManySessions said = elim said [ ]
refused_for asked next shelf UnreadableRoot said = elim said [ ]
refused_for asked next shelf TooManyFiles said = elim said [ ]
refused_for asked next shelf TicksSpent said = elim said [ ]
refused_for asked next shelf NoSuchProgram said = elim said [ ]
refused_for asked next shelf ProgramTooLarge said = elim said [ ]
refused_for asked next shelf TooManySubscriptions said = elim said [ ]
refused_for asked next shelf BadTrigger said = elim said [ ]
refused_for asked next shelf TooManyTriggers said = elim said [ ]
refused_for asked next shelf NotBase64 said = elim said [ ]
refused_for asked next shelf ShelfFull said = elim said [ ]
refused_for asked next shelf (WrongFile fault) said = elim said [ ]
refused_for asked next shelf (WrongProgram fault place) said = elim said [ ]

-- so the fault of a query that was read is the reason to refuse `query`
pub refuses_read : (d : Data) (shelf : ShelfNow) (a : AtData) (view : ViewData) → a.view ≡ Some view → (refusal : Refusal)
    → GivesRead (Err refusal) (queries a.instance d) → Begins (begun_query d a shelf) shelf (Err refusal) shelf
refuses_read d shelf a view shown refusal said =
    subst (λ b. Begins b shelf (Err refusal) shelf) (sym (at_view d shelf a view shown))
    (refused_for (queries a.instance d) (λ q. begun_read_query (a.instance).root view.tick q shelf) shelf refusal said)

module _ (root name : List ℕ) (d : Data) (shelf : ShelfNow) (a : AtData) (view : ViewData) (shown : a.view ≡ Some view)
    (named : is_name name ≡ true) where
  -- the beginning of `subscribe` at a root that is shown
  subscribed_at : begun_subscribe root name d a shelf
      ≡ or_its_fault BadQuery (subscribes a.instance d) (λ q. begun_read_subscribe root name (a.instance).root q shelf)
  subscribed_at =
      ap (λ v. or_fault NotWatched v (λ (view : ViewData). unless_fault BadName (is_name name) (
      or_its_fault BadQuery (subscribes a.instance d) (λ q. begun_read_subscribe root name (a.instance).root q shelf)))) shown
      ∙ ap (λ t. unless_fault BadName t (
      or_its_fault BadQuery (subscribes a.instance d) (λ q. begun_read_subscribe root name (a.instance).root q shelf))) named

  -- the query of a subscription that was read begins as `subscribe` does
  pub begins_subscribed : (query : Query) → GivesRead (Ok query) (subscribes a.instance d) → (result : Result Rest Refusal)
      → Begins (begun_read_subscribe root name (a.instance).root (asked_of query) shelf) shelf result shelf
      → Begins (begun_subscribe root name d a shelf) shelf result shelf
  begins_subscribed query said result begins =
      subst (λ b. Begins b shelf result shelf)
      (sym (subscribed_at
      ∙ ap (λ r. or_its_fault BadQuery r (λ q. begun_read_subscribe root name (a.instance).root q shelf)) said))
      begins

  -- and its fault is the reason to refuse `subscribe`
  pub refuses_subscribed : (refusal : Refusal) → GivesRead (Err refusal) (subscribes a.instance d)
      → Begins (begun_subscribe root name d a shelf) shelf (Err refusal) shelf
  refuses_subscribed refusal said =
      subst (λ b. Begins b shelf (Err refusal) shelf) (sym subscribed_at)
      (refused_for (subscribes a.instance d) (λ q. begun_read_subscribe root name (a.instance).root q shelf) shelf refusal said)

-- the fault of a trigger that was read is the reason to refuse a line
refused_defined : (said : Result DefinitionData Refusal) (next : DefinitionData → Result BegunData Refusal) (shelf : ShelfNow) (refusal : Refusal)
    → GivesDefined (Err refusal) said → Begins (or_own_fault said next) shelf (Err refusal) shelf
refused_defined said next shelf NoMemory is = refl
refused_defined said next shelf (BadQuery fault) is = (ap (λ r. or_own_fault r next) is, refl)
refused_defined said next shelf LineTooLong is = (ap (λ r. or_own_fault r next) is, refl)
refused_defined said next shelf Bser is = (ap (λ r. or_own_fault r next) is, refl)
refused_defined said next shelf NotJson is = (ap (λ r. or_own_fault r next) is, refl)
refused_defined said next shelf NotACommand is = (ap (λ r. or_own_fault r next) is, refl)
refused_defined said next shelf UnknownCommand is = (ap (λ r. or_own_fault r next) is, refl)
refused_defined said next shelf WrongArguments is = (ap (λ r. or_own_fault r next) is, refl)
refused_defined said next shelf RootNotAbsolute is = (ap (λ r. or_own_fault r next) is, refl)
refused_defined said next shelf NotWatched is = (ap (λ r. or_own_fault r next) is, refl)
refused_defined said next shelf BadName is = (ap (λ r. or_own_fault r next) is, refl)
refused_defined said next shelf TooManyRoots is = (ap (λ r. or_own_fault r next) is, refl)
refused_defined said next shelf TooManySessions is = (ap (λ r. or_own_fault r next) is, refl)
refused_defined said next shelf UnreadableRoot is = (ap (λ r. or_own_fault r next) is, refl)
refused_defined said next shelf TooManyFiles is = (ap (λ r. or_own_fault r next) is, refl)
refused_defined said next shelf TicksSpent is = (ap (λ r. or_own_fault r next) is, refl)
refused_defined said next shelf NoSuchProgram is = (ap (λ r. or_own_fault r next) is, refl)
refused_defined said next shelf ProgramTooLarge is = (ap (λ r. or_own_fault r next) is, refl)
refused_defined said next shelf TooManySubscriptions is = (ap (λ r. or_own_fault r next) is, refl)
refused_defined said next shelf BadTrigger is = (ap (λ r. or_own_fault r next) is, refl)
refused_defined said next shelf TooManyTriggers is = (ap (λ r. or_own_fault r next) is, refl)
refused_defined said next shelf NotBase64 is = (ap (λ r. or_own_fault r next) is, refl)
refused_defined said next shelf ShelfFull is = (ap (λ r. or_own_fault r next) is, refl)
refused_defined said next shelf (WrongFile fault) is = (ap (λ r. or_own_fault r next) is, refl)
refused_defined said next shelf (WrongProgram fault place) is = (ap (λ r. or_own_fault r next) is, refl)

module _ (root : List ℕ) (d : Data) (shelf : ShelfNow) (a : AtData) (view : ViewData) (shown : a.view ≡ Some view) where
  -- the beginning of `trigger` at a root that is shown
  triggered_at : begun_trigger root d a shelf
      ≡ or_own_fault (defined_by a.instance d) (λ definition. begun_read_trigger root (a.instance).root definition shelf)
  triggered_at =
      ap (λ v. or_fault NotWatched v (λ (view : ViewData).
      or_own_fault (defined_by a.instance d) (λ definition. begun_read_trigger root (a.instance).root definition shelf))) shown

  -- the trigger that was read begins as `trigger` does
  pub begins_defined : (definition : Definition) → GivesDefined (Ok definition) (defined_by a.instance d)
      → (result : Result Rest Refusal) (after : ShelfNow)
      → Begins (begun_read_trigger root (a.instance).root (definition_data definition) shelf) shelf result after
      → Begins (begun_trigger root d a shelf) shelf result after
  begins_defined definition said result after begins =
      subst (λ b. Begins b shelf result after)
      (sym (triggered_at
      ∙ ap (λ r. or_own_fault r (λ definition. begun_read_trigger root (a.instance).root definition shelf)) said))
      begins

  -- and its fault is the reason to refuse `trigger`
  pub refuses_defined : (refusal : Refusal) → GivesDefined (Err refusal) (defined_by a.instance d)
      → Begins (begun_trigger root d a shelf) shelf (Err refusal) shelf
  refuses_defined refusal said =
      subst (λ b. Begins b shelf (Err refusal) shelf) (sym triggered_at)
      (refused_defined (defined_by a.instance d) (λ definition. begun_read_trigger root (a.instance).root definition shelf) shelf refusal said)

-- the object of a definition, and its query
abbrev object_in : Result DefinitionData TriggerFault → Data
object_in (Ok definition) = definition.object
object_in (Err fault) = null

abbrev query_in : QueryData → Result DefinitionData TriggerFault → QueryData
query_in q (Ok definition) = definition.query
query_in q (Err fault) = q

-- the query of a definition is the one that its object asks
pub definition_asks : (instance : InstanceData) (d : Data) (definition : DefinitionData) → defines instance d ≡ Ok definition
    → queries instance definition.object ≡ Ok definition.query
definition_asks instance d definition is =
    by (not (has_bad_length (get (codes "name") d))) (shape_of d) (queries instance (known_part d)) refl is
  where
    by : (test : Bool) (shape : Result ShapeData TriggerFault) (query : Result QueryData QueryFault) → queries instance (known_part d) ≡ query
        → unless_fault BadTriggerName test (or_own_fault shape (λ shape. or_its_fault BadTriggerQuery query (λ query.
        Ok (record { shape = shape; query = query; object = known_part d })))) ≡ Ok definition
        → queries instance definition.object ≡ Ok definition.query
    by false shape query asked is = absurd cc
    by true (Err fault) query asked is = absurd cc
    by true (Ok shape) (Err fault) asked is = absurd cc
    by true (Ok shape) (Ok query) asked is =
        ap (queries instance) (sym (ap object_in is)) ∙ asked ∙ ap (λ r. Ok (query_in query r)) is

-- the ask of a subscription is asked as a query
pub asked_plain : (instance : InstanceData) (d : Data) (q : QueryData) → subscribes instance d ≡ Ok q → queries instance d ≡ Ok q
asked_plain instance d q is = by (queries instance d) (has_generator d) (has_cursor d) is
  where
    by : (asked : Result QueryData QueryFault) (generator cursor : Bool) → without_generators asked generator cursor ≡ Ok q → asked ≡ Ok q
    by (Ok asked) true cursor is = absurd cc
    by (Ok asked) false true is = absurd cc
    by (Ok asked) false false is = is
    by (Err fault) generator cursor is = of (comes_first fault) generator cursor is
      where
        of : (first generator cursor : Bool)
            → (if first then Err fault else if generator then Err BadGenerator else if cursor then Err BadClockSpec else Err fault) ≡ Ok q
            → Err fault ≡ Ok q
        of true generator cursor is = is
        of false true cursor is = absurd cc
        of false false true is = absurd cc
        of false false false is = is

-- the object of a subscription was read as a query
pub plain_read : (instance : InstanceData) (d : Data) (query : Result Query QueryFault) → GivesQuery query (subscribes instance d)
    → IfOk query (λ query. queries instance d ≡ Ok (asked_of query))
plain_read instance d (Ok query) is = asked_plain instance d (asked_of query) is
plain_read instance d (Err fault) is = tt
