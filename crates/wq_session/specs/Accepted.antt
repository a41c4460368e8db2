-- The calls of the shelf that an ask leads to. They are all that its answer does there.
-- It is this server's own.
use Rattle.std.specs.Prelude.{◌≡◌, ◌⊎◌, ℕ, Bool, true, List, [], ◌∷◌, ◌++◌, Option, Some, None}
use Rattle.std.specs.Prelude.{Result, Ok, Err}
use Rattle.serde_json.specs.Data.{Data}
use Rattle.serde_json.specs.View.{view as data_of}
use Rattle.wq_clock.specs.Instance.{InstanceData}
use Rattle.wq_code.specs.declared.raw.Raw.{Raw}
use Rattle.wq_follow.specs.Definition.{DefinitionData}
use Rattle.wq_follow.specs.Round.{TriggerData}
use Rattle.wq_follow.specs.Subscription.{SubscriptionData}
use Rattle.wq_query.specs.Query.{QueryData, SinceData, at_bound, at_cursor}
use Rattle.wq_reply.specs.Plan.{PlanData}
use Rattle.wq_query.specs.Reading.{asks as queries}
use Rattle.wq_query.specs.declared.fault.QueryFault.{QueryFault}
use Rattle.wq_registry.specs.History.{Call, adds_program, removes_program, adds_root, removes_root}
use Rattle.wq_registry.specs.History.{uses_cursor, unsets_cursor, adds_trigger, removes_trigger}
use Rattle.wq_registry.specs.History.{AddsOne, after_all}
use Rattle.wq_view.specs.View.{ViewData}
use Rattle.wq_session.specs.Out.{EndsListing, OutData, refuses, runs_out}
use Rattle.wq_ask.specs.declared.ask.Ask.{Ask}
use Rattle.wq_ask.specs.declared.ask.Ask.TheVariants.{OfRoot, OfShelf, Unwatch, Watch}
use Rattle.wq_ask.specs.declared.ask.RootAsk.{RootAsk}
use Rattle.wq_ask.specs.declared.ask.RootAsk.TheVariants.{AddTrigger, DeleteTrigger}
use Rattle.wq_ask.specs.declared.ask.RootAsk.TheVariants.{Query as AsksQuery}
use Rattle.wq_ask.specs.declared.ask.ShelfAsk.{ShelfAsk}
use Rattle.wq_ask.specs.declared.ask.ShelfAsk.TheVariants.{AddProgram, DeleteProgram}
use Rattle.wq_session.specs.declared.cursor.Cursor.{Cursor}
use Rattle.wq_ask.specs.declared.refusal.Refusal.{Refusal}
use Rattle.wq_session.specs.Answer.{AnswersAsk, finished}
use Rattle.wq_crawl.specs.At.{AtData}
use Rattle.wq_session.specs.At.{ShelfNow}
use Rattle.wq_session.specs.Begun.{takes_memory, begun_ask}
use Rattle.wq_session.specs.Query.{program_for}
use Rattle.wq_session.specs.Trigger.{defined_by, defined_name, trigger_in}
use Rattle.wq_session.specs.Work.{BegunData, evaluates}

-- a call of a shelf
abbrev pub CallNow : Type 0
CallNow = Call TriggerData

-- the use of a cursor of a root at a tick, if the bound has a cursor
abbrev pub cursor_calls : ℕ → SinceData → ℕ → List CallNow
cursor_calls root (at_bound bound) tick = []
cursor_calls root (at_cursor name) tick = uses_cursor root name tick ∷ []

-- the calls of a query of a root at a tick: its cursor is used there
abbrev pub query_calls : ℕ → ℕ → Result QueryData QueryFault → List CallNow
query_calls root tick (Ok q) = cursor_calls root q.since tick
query_calls root tick (Err fault) = []

-- the calls of a query of an object, at a root that is looked at and its view, unless it has ended
abbrev pub shown_calls : InstanceData → Option ViewData → Data → List CallNow
shown_calls instance None d = []
shown_calls instance (Some view) d = query_calls instance.root view.tick (queries instance d)

-- the calls of a definition with its program: the trigger is put under its name
abbrev pub made_calls : List ℕ → ℕ → DefinitionData → Result (Option Raw) Refusal → ShelfNow
    → List CallNow
made_calls root number d (Ok program) shelf =
    adds_trigger number (defined_name d) (trigger_in root number d program shelf) ∷ []
made_calls root number d (Err refusal) shelf = []

-- the calls of a definition, of the root with this text and number
abbrev pub definition_calls : List ℕ → ℕ → Result DefinitionData Refusal → ShelfNow → List CallNow
definition_calls root number (Ok d) shelf =
    made_calls root number d (program_for d.query shelf) shelf
definition_calls root number (Err refusal) shelf = []

-- the calls of an ask of the root with this text
abbrev pub there_calls : RootAsk → List ℕ → AtData → ShelfNow → List CallNow
there_calls (AsksQuery q) root at shelf = shown_calls at.instance at.view (data_of q)
there_calls (AddTrigger t) root at shelf =
    definition_calls root (at.instance).root (defined_by at.instance (data_of t)) shelf
there_calls (DeleteTrigger name) root at shelf = removes_trigger (at.instance).root name ∷ []
there_calls _ root at shelf = []

-- the calls of an ask at a root that is looked at
abbrev pub root_calls : Ask → AtData → ShelfNow → List CallNow
root_calls (Watch root) at shelf = adds_root root (at.instance).root ∷ []
root_calls (Unwatch root) at shelf = removes_root (at.instance).root ∷ []
root_calls (OfRoot root crawl what) at shelf = there_calls what root at shelf
root_calls _ at shelf = []

-- the calls of an ask of the shelf
abbrev pub shelf_calls : ShelfAsk → List CallNow
shelf_calls (AddProgram name program) = adds_program name program ∷ []
shelf_calls (DeleteProgram name) = removes_program name ∷ []
shelf_calls _ = []

-- the calls of an ask that needs a root
abbrev pub looked_calls : Ask → Option AtData → ShelfNow → List CallNow
looked_calls ask None shelf = []
looked_calls ask (Some at) shelf = root_calls ask at shelf

-- the calls of an ask at a shelf, each of which is accepted if the ask is
abbrev pub calls_of : Ask → Option AtData → ShelfNow → List CallNow
calls_of (OfShelf what) at shelf = shelf_calls what
calls_of ask at shelf = looked_calls ask at shelf

-- the unsetting of a cursor, if there is one
abbrev pub unset_calls : Option Cursor → List CallNow
unset_calls None = []
unset_calls (Some cursor) = unsets_cursor cursor.root cursor.name ∷ []

-- these calls were accepted of an ask that was answered so, of a client that may go, or may not.
-- They are its own; or none, if the line was refused or memory ran out first; or its own and then
-- the unsetting of the cursor, if memory ran out over the files or the client has gone by then
abbrev pub Accepts : Bool → Ask → Option AtData → ShelfNow → List SubscriptionData → OutData
    → List CallNow → Type 0
Accepts may_go ask at shelf follows out calls =
    ((b : BegunData) × (begun_ask ask at shelf ≡ Ok b)
    × (out ≡ (finished b.work at follows).out)
    × (calls ≡ calls_of ask at shelf))
    ⊎ ((refusal : Refusal) × (begun_ask ask at shelf ≡ Err refusal) × (out ≡ refuses refusal)
    × (calls ≡ []))
    ⊎ ((takes_memory ask ≡ true) × (out ≡ runs_out None) × (calls ≡ []))
    ⊎ ((b : BegunData) × (plan : PlanData) × (cursor : Option Cursor)
    × (begun_ask ask at shelf ≡ Ok b) × (b.work ≡ evaluates plan cursor)
    × EndsListing may_go None out × (calls ≡ calls_of ask at shelf ++ unset_calls cursor))

-- an answer leaves the shelf that results from the calls that were accepted of the ask
abbrev pub AnswersAreCalls : Type 0
AnswersAreCalls = (may_go : Bool) (ask : Ask) (at : Option AtData) (shelf : ShelfNow)
    (follows : List SubscriptionData) (out : OutData) (after : ShelfNow)
    (left : List SubscriptionData) → AnswersAsk may_go ask at shelf follows out after left
    → (calls : List CallNow) × Accepts may_go ask at shelf follows out calls
    × (after ≡ after_all calls shelf)

-- a program that accepted calls add is the one that the ask hands in
abbrev pub AddedAreAsked : Type 0
AddedAreAsked = (may_go : Bool) (ask : Ask) (at : Option AtData) (shelf : ShelfNow)
    (follows : List SubscriptionData) (out : OutData) (calls : List CallNow) (raw : Raw)
    → Accepts may_go ask at shelf follows out calls → AddsOne raw calls
    → (name : List ℕ) × (ask ≡ OfShelf (AddProgram name raw))
