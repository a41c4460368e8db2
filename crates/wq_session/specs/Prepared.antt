-- Prepared asks: each has all that can be read of it before the shelf is held.
-- It is this server's own.
use Rattle.std.specs.Prelude.{◌≡◌, Option, Some, None, option_map, Result, Ok, Err, IfSome}
use Rattle.std.specs.declared.alloc.Global.{Global}
use Rattle.std.specs.declared.sync.Arc.{Arc}
use Rattle.serde_json.specs.Data.{Data}
use Rattle.serde_json.specs.View.{view as data_of}
use Rattle.wq_clock.specs.Instance.{InstanceData}
use Rattle.wq_code.specs.declared.raw.Raw.{Raw}
use Rattle.wq_compile.specs.Large.{is_too_large}
use Rattle.wq_follow.specs.Defined.{definition_data}
use Rattle.wq_follow.specs.Definition.{DefinitionData}
use Rattle.wq_follow.specs.declared.definition.Definition.{Definition}
use Rattle.wq_reply.specs.Meaning.{AnswersWithin}
use Rattle.wq_query.specs.Query.{QueryData, asked_of}
use Rattle.wq_query.specs.Reading.{asks as queries}
use Rattle.wq_query.specs.Subscribed.{subscribes}
use Rattle.wq_query.specs.declared.fault.QueryFault.{QueryFault}
use Rattle.wq_query.specs.declared.query.Query.{Query}
use Rattle.wq_registry.specs.CacheKey.{CacheKeyData, Says}
use Rattle.wq_registry.specs.Kept.{StandsFor}
use Rattle.wq_term.specs.Expr.{ExprData}
use Rattle.wq_ask.specs.HandedIn.{HandsInValid}
use Rattle.wq_ask.specs.declared.ask.Ask.{Ask}
use Rattle.wq_ask.specs.declared.ask.Ask.TheVariants.{OfRoot}
use Rattle.wq_ask.specs.declared.ask.RootAsk.{RootAsk}
use Rattle.wq_ask.specs.declared.ask.RootAsk.TheVariants.{Query as AsksQuery, Subscribe, AddTrigger}
use Rattle.wq_ask.specs.declared.refusal.Refusal.{Refusal}
use Rattle.wq_ask.specs.declared.refusal.Refusal.TheVariants.{NoMemory, Query as BadQuery}
use Rattle.wq_crawl.specs.At.{AtData, at_data}
use Rattle.wq_session.specs.Moment.{Shown, shown_in}
use Rattle.wq_session.specs.Trigger.{defined_by}
use Rattle.wq_session.specs.declared.lookup.Lookup.{Lookup}
use Rattle.wq_session.specs.declared.prepared.Prepared.{Prepared}
use Rattle.wq_session.specs.declared.read_object.ReadObject.{ReadObject}
use Rattle.wq_session.specs.declared.read_object.ReadObject.TheVariants.{None as Unread}
use Rattle.wq_session.specs.declared.read_object.ReadObject.TheVariants.{Query as QueryRead}
use Rattle.wq_session.specs.declared.read_object.ReadObject.TheVariants.{Trigger as TriggerRead}
use Rattle.wq_session.specs.declared.read_object.ReadObject.TheVariants.{Refused as ObjectRefused}

-- the knowledge of the program of an expression: whether the program would be too large, the key
-- that says the expression, and a program that answers what the expression means within its
-- measure. The last two may be missing
abbrev pub IsLookup : ExprData → Lookup → Type 0
IsLookup expression lookup =
    (lookup.is_large ≡ is_too_large expression)
    × IfSome lookup.key (λ key. Says key expression)
    × IfSome lookup.program (λ program. AnswersWithin program.value expression)

-- a query was read, or its fault was found, or memory ran out
abbrev pub GivesRead : Result Query Refusal → Result QueryData QueryFault → Type 0
GivesRead (Ok query) said = said ≡ Ok (asked_of query)
GivesRead (Err NoMemory) said = Unit {0}
GivesRead (Err (BadQuery fault)) said = said ≡ Err fault
GivesRead (Err _) said = ⊥

-- a trigger was read, or its fault was found, or memory ran out
abbrev pub GivesDefined : Result Definition Refusal → Result DefinitionData Refusal → Type 0
GivesDefined (Ok definition) said = said ≡ Ok (definition_data definition)
GivesDefined (Err NoMemory) said = Unit {0}
GivesDefined (Err refusal) said = said ≡ Err refusal

-- the result of reading an object as a query
abbrev pub GivesReadObject : Result QueryData QueryFault → ReadObject → Type 0
GivesReadObject said (QueryRead query) = GivesRead (Ok query) said
GivesReadObject said (ObjectRefused refusal) = GivesRead (Err refusal) said
GivesReadObject said _ = ⊥

-- the result of reading an object as a trigger
abbrev pub GivesDefinedObject : Result DefinitionData Refusal → ReadObject → Type 0
GivesDefinedObject said (TriggerRead definition) = GivesDefined (Ok definition) said
GivesDefinedObject said (ObjectRefused refusal) = GivesDefined (Err refusal) said
GivesDefinedObject said _ = ⊥

-- the object of an ask, if it has one
pub data ObjectData : Type 0 where
  -- there is none
  asks_nothing : ObjectData
  -- a query
  asks_query : Data → ObjectData
  -- the query of a subscription
  asks_subscription : Data → ObjectData
  -- a trigger
  asks_trigger : Data → ObjectData

-- the object of an ask of a root
abbrev pub object_of : RootAsk → ObjectData
object_of (AsksQuery q) = asks_query (data_of q)
object_of (Subscribe name q) = asks_subscription (data_of q)
object_of (AddTrigger t) = asks_trigger (data_of t)
object_of _ = asks_nothing

-- the object of an ask
abbrev pub object_in : Ask → ObjectData
object_in (OfRoot root crawl what) = object_of what
object_in _ = asks_nothing

-- the object of an ask, if it has one, was read at an instance
abbrev pub IsReadThere : ObjectData → InstanceData → ReadObject → Type 0
IsReadThere asks_nothing instance read = read ≡ Unread
IsReadThere (asks_query d) instance read = GivesReadObject (queries instance d) read
IsReadThere (asks_subscription d) instance read = GivesReadObject (subscribes instance d) read
IsReadThere (asks_trigger d) instance read = GivesDefinedObject (defined_by instance d) read

-- the same of a root that is shown; at none nothing was read
abbrev pub IsReadShown : ObjectData → Shown → ReadObject → Type 0
IsReadShown object None read = read ≡ Unread
IsReadShown object (Some (instance, view)) read = IsReadThere object instance read

-- the object of an ask, if it has one, was read at the root that is looked at, if a view is shown
unfoldable pub IsReadAt : ObjectData → Option AtData → ReadObject → Type 0
IsReadAt object at read = IsReadShown object (shown_in at) read

-- the query of an object, if it was read: of a trigger, the one that selects its files
abbrev pub object_query : ReadObject → Option QueryData
object_query (QueryRead query) = Some (asked_of query)
object_query (TriggerRead definition) = Some (definition_data definition).query
object_query _ = None

-- the knowledge of the program of an object, if the object was read
abbrev pub IsKnown : ReadObject → Lookup → Type 0
IsKnown object lookup = IfSome (object_query object) (λ q. IsLookup q.expression lookup)

-- the ask that was prepared
abbrev pub asked : Prepared → Ask
asked prepared = prepared.ask

-- the root at which it was prepared, if any
abbrev pub asked_at : Prepared → Option AtData
asked_at prepared = option_map at_data prepared.at

-- an ask was prepared: a program that it hands in may run, and its object, if it has one, was read,
-- with the knowledge of its program
pub record IsPrepared (prepared : Prepared) : Type 0 where
  pub valid : HandsInValid (asked prepared)
  pub read : IsReadAt (object_in (asked prepared)) (asked_at prepared) prepared.object
  pub known : IsKnown prepared.object prepared.lookup

-- the key of a prepared ask
abbrev pub key_in : Prepared → Option CacheKeyData
key_in prepared = (prepared.lookup).key

-- a program that was found has the meaning of the key's text, if there is a key
abbrev pub IsFoundFor : Option CacheKeyData → Option (Arc Raw Global) → Type 0
IsFoundFor key None = Unit {0}
IsFoundFor None (Some program) = ⊥
IsFoundFor (Some key) (Some program) = StandsFor key.instance key.text program.value
