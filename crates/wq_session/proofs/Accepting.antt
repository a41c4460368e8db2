-- The shelf that an ask leaves, as the result of the calls that are accepted of it.
use Rattle.std.proofs.Common.{◌≡◌, ℕ, Bool, true, false, not, if◌then◌else◌, List, [], ◌∷◌, ◌++◌, Option, Some, None, Result, Ok, Err, inl, inr, refl, sym, ap, subst, ◌∙◌}
use Rattle.serde_json.specs.Data.{Data}
use Rattle.serde_json.specs.View.{view as data_of}
use Rattle.wq_clock.specs.Instance.{InstanceData}
use Rattle.wq_view.specs.View.{ViewData}
use Rattle.wq_base.specs.Fault.{or_fault, or_its_fault, or_own_fault, unless_fault}
use Rattle.wq_code.specs.declared.raw.Raw.{Raw}
use Rattle.wq_query.specs.Query.{QueryData, SinceData, at_bound, at_cursor}
use Rattle.wq_reply.specs.Plan.{PlanData}
use Rattle.wq_follow.specs.Definition.{DefinitionData}
use Rattle.wq_follow.specs.Subscription.{SubscriptionData, subscribed}
use Rattle.wq_query.specs.Reading.{asks as queries}
use Rattle.wq_query.specs.Subscribed.{subscribes as subscription_of}
use Rattle.wq_query.specs.declared.fault.QueryFault.{QueryFault}
use Rattle.wq_registry.specs.Limit.{max_programs}
use Rattle.wq_registry.specs.ByName.{has_no_place}
use Rattle.wq_registry.specs.Shelf.{root_has_no_place}
use Rattle.wq_registry.specs.History.{adds_trigger, after_all, removes_trigger}
use Rattle.wq_ask.specs.Program.{is_name}
use Rattle.wq_session.specs.Out.{EndsListing, OutData}
use Rattle.wq_ask.specs.declared.ask.Ask.{Ask}
use Rattle.wq_ask.specs.declared.ask.Ask.TheVariants.{Alone, OfRoot, OfShelf, Unwatch, Watch}
use Rattle.wq_ask.specs.declared.ask.LoneAsk.{LoneAsk}
use Rattle.wq_ask.specs.declared.ask.LoneAsk.TheVariants.{Leave, Nothing, Refused, ShutDown, Version}
use Rattle.wq_ask.specs.declared.ask.RootAsk.{RootAsk}
use Rattle.wq_ask.specs.declared.ask.RootAsk.TheVariants.{AddTrigger, DeleteTrigger, Query as AsksQuery, Reads as ReadsRoot, Subscribe, Unsubscribe}
use Rattle.wq_ask.specs.declared.ask.ShelfAsk.{ShelfAsk}
use Rattle.wq_ask.specs.declared.ask.ShelfAsk.TheVariants.{AddProgram, DeleteProgram, Reads as ReadsShelf}
use Rattle.wq_session.specs.declared.cursor.Cursor.{Cursor}
use Rattle.wq_ask.specs.declared.refusal.Refusal.{Refusal}
use Rattle.wq_ask.specs.declared.refusal.Refusal.TheVariants.{NotWatched, Query as BadQuery, ShelfFull, TooManyRoots, BadName, TooManyTriggers}
use Rattle.wq_session.specs.Accepted.{CallNow, Accepts, AnswersAreCalls, calls_of, cursor_calls, definition_calls, made_calls, query_calls, shelf_calls, shown_calls, there_calls, unset_calls}
use Rattle.wq_session.specs.Trigger.{begun_read_trigger, defined_by, defined_name, has_no_trigger_place, put_trigger, trigger_in}
use Rattle.wq_session.specs.Answer.{AnswerData, finished, without_cursor}
use Rattle.wq_session.specs.Subscribe.{begun_read_subscribe, first_plan}
use Rattle.wq_crawl.specs.At.{AtData}
use Rattle.wq_session.specs.At.{ShelfNow, is_watched}
use Rattle.wq_session.specs.Begun.{begun_ask, begun_alone, begun_on_shelf, begun_there, or_refused, reply_at, reply_on}
use Rattle.wq_session.specs.Query.{begun_read_query, has_place, moved_cursor, plan_at, program_for, used_at}
use Rattle.wq_session.specs.Work.{BegunData, begins, evaluates, replying}

-- begun work leaves the shelf that these calls lead to
abbrev Leads : List CallNow → ShelfNow → Result BegunData Refusal → Type 0
Leads calls shelf (Ok b) = b.shelf ≡ after_all calls shelf
Leads calls shelf (Err refusal) = Unit {0}

unless : (refusal : Refusal) (test : Bool) (calls : List CallNow) (shelf : ShelfNow) (b : BegunData)
    → b.shelf ≡ after_all calls shelf → Leads calls shelf (unless_fault refusal test (Ok b))
unless refusal false calls shelf b so = tt
unless refusal true calls shelf b so = so

used : (root : ℕ) (since : SinceData) (tick : ℕ) (shelf : ShelfNow)
    → used_at root since tick shelf ≡ after_all (cursor_calls root since tick) shelf
used root (at_bound bound) tick shelf = refl
used root (at_cursor name) tick shelf = refl

module _ (shelf : ShelfNow) where
  with_program : (root tick : ℕ) (q : QueryData) (program : Result (Option Raw) Refusal)
      → Leads (query_calls root tick (Ok q)) shelf (or_own_fault program (λ program.
      unless_fault ShelfFull (has_place root q.since shelf) (
      Ok (record {
        work = evaluates (plan_at root q program shelf) (moved_cursor root q.since);
        shelf = used_at root q.since tick shelf;
      }))))
  with_program root tick q (Err refusal) = tt
  with_program root tick q (Ok program) =
      unless ShelfFull (has_place root q.since shelf) (cursor_calls root q.since tick) shelf _ (used root q.since tick shelf)

  with_query : (root tick : ℕ) (q : Result QueryData QueryFault)
      → Leads (query_calls root tick q) shelf (or_its_fault BadQuery q (λ q. begun_read_query root tick q shelf))
  with_query root tick (Err fault) = tt
  with_query root tick (Ok q) = with_program root tick q (program_for q shelf)

  with_view : (instance : InstanceData) (d : Data) (view : Option ViewData)
      → Leads (shown_calls instance view d) shelf (or_fault NotWatched view (λ view.
      or_its_fault BadQuery (queries instance d) (λ q. begun_read_query instance.root view.tick q shelf)))
  with_view instance d None = tt
  with_view instance d (Some view) = with_query instance.root view.tick (queries instance d)

  -- an ask that reads leaves the shelf
  reads : (reply : Result Data Refusal) → Leads [] shelf (replying reply shelf)
  reads (Err refusal) = tt
  reads (Ok d) = refl

  -- the beginning of `subscribe` leaves the shelf
  with_subscription : (root name : List ℕ) (instance : InstanceData) (d : Data) (view : Option ViewData)
      → Leads [] shelf (or_fault NotWatched view (λ view. unless_fault BadName (is_name name) (
      or_its_fault BadQuery (subscription_of instance d) (λ q. begun_read_subscribe root name instance.root q shelf))))
  with_subscription root name instance d None = tt
  with_subscription root name instance d (Some view) = by (is_name name) (subscription_of instance d)
    where
      found : (q : QueryData) (program : Result (Option Raw) Refusal) → Leads [] shelf (or_own_fault program (λ program.
          Ok (record { work = begins (subscribed name root instance.root (first_plan q program)); shelf = shelf })))
      found q (Err refusal) = tt
      found q (Ok program) = refl

      by : (test : Bool) (q : Result QueryData QueryFault) → Leads [] shelf (unless_fault BadName test (
          or_its_fault BadQuery q (λ q. begun_read_subscribe root name instance.root q shelf)))
      by false q = tt
      by true (Err fault) = tt
      by true (Ok q) = found q (program_for q shelf)

  -- the beginning of `trigger` leads to the shelf with the trigger
  with_definition : (root : List ℕ) (number : ℕ) (d : Result DefinitionData Refusal) (view : Option ViewData)
      → Leads (definition_calls root number d shelf) shelf (or_fault NotWatched view (λ view.
      or_own_fault d (λ definition. begun_read_trigger root number definition shelf)))
  with_definition root number d None = tt
  with_definition root number (Err refusal) (Some view) = tt
  with_definition root number (Ok d) (Some view) = found (program_for d.query shelf)
    where
      found : (program : Result (Option Raw) Refusal) → Leads (made_calls root number d program shelf) shelf
          (or_own_fault program (λ program. put_trigger root number d program shelf))
      found (Err refusal) = tt
      found (Ok program) =
          unless TooManyTriggers (not (has_no_trigger_place number (defined_name d) shelf))
          (adds_trigger number (defined_name d) (trigger_in root number d program shelf) ∷ []) shelf _ refl

  -- the consequences if the root is watched
  where_watched : (at : AtData) (test : Bool) (calls : List CallNow) (next : AtData → Result BegunData Refusal)
      → Leads calls shelf (next at) → Leads calls shelf (or_fault NotWatched (if test then Some at else None) next)
  where_watched at false calls next so = tt
  where_watched at true calls next so = so

  -- an ask of the root that is looked at
  there : (what : RootAsk) (root : List ℕ) (at : AtData) → Leads (there_calls what root at shelf) shelf (begun_there what root at shelf)
  there (ReadsRoot what) root at = reads (reply_at what at shelf)
  there (AsksQuery q) root at = with_view at.instance (data_of q) at.view
  there (Subscribe name q) root at = with_subscription root name at.instance (data_of q) at.view
  there (Unsubscribe name) root at = unless BadName (is_name name) [] shelf _ refl
  there (AddTrigger t) root at = with_definition root (at.instance).root (defined_by at.instance (data_of t)) at.view
  there (DeleteTrigger name) root at = unless BadName (is_name name) (removes_trigger (at.instance).root name ∷ []) shelf _ refl

  -- an ask of the shelf
  on_shelf : (what : ShelfAsk) → Leads (shelf_calls what) shelf (begun_on_shelf what shelf)
  on_shelf (ReadsShelf what) = reads (Ok (reply_on what shelf))
  on_shelf (AddProgram name program) =
      unless ShelfFull (not (has_no_place max_programs name shelf.programs)) (shelf_calls (AddProgram name program)) shelf _ refl
  on_shelf (DeleteProgram name) = refl

  -- an ask whose answer is always the same
  alone : (what : LoneAsk) → Leads [] shelf (begun_alone what shelf)
  alone (Refused refusal) = tt
  alone Version = refl
  alone ShutDown = refl
  alone Leave = refl
  alone Nothing = refl

-- an ask that is not refused leaves the shelf that its calls lead to
leads : (ask : Ask) (at : Option AtData) (shelf : ShelfNow) → Leads (calls_of ask at shelf) shelf (begun_ask ask at shelf)
leads (Watch root) None shelf = tt
leads (Watch root) (Some at) shelf =
    unless TooManyRoots (not (root_has_no_place root (at.instance).root shelf))
    (calls_of (Watch root) (Some at) shelf) shelf _ refl
leads (Unwatch root) None shelf = tt
leads (Unwatch root) (Some at) shelf =
    where_watched shelf at (is_watched root at shelf) (calls_of (Unwatch root) (Some at) shelf) _ refl
leads (OfRoot root crawl what) None shelf = tt
leads (OfRoot root crawl what) (Some at) shelf =
    where_watched shelf at (is_watched root at shelf) (there_calls what root at shelf) _ (there shelf what root at)
leads (OfShelf what) at shelf = on_shelf shelf what
leads (Alone what) None shelf = alone shelf what
leads (Alone what) (Some at) shelf = alone shelf what

-- calls one after the other
one_more : (calls : List CallNow) (cursor : Option Cursor) (shelf : ShelfNow)
    → after_all (calls ++ unset_calls cursor) shelf ≡ without_cursor cursor (after_all calls shelf)
one_more [] None shelf = refl
one_more [] (Some cursor) shelf = refl
one_more (c ∷ cs) cursor shelf = one_more cs cursor _

module _ (may_go : Bool) (ask : Ask) (at : Option AtData) (shelf : ShelfNow) (follows : List SubscriptionData) where
  -- the answer, by the result of the ask
  whole : (r : Result BegunData Refusal) → begun_ask ask at shelf ≡ r → Leads (calls_of ask at shelf) shelf r
      → (calls : List CallNow) × Accepts may_go ask at shelf follows (finished (or_refused r shelf).work at follows).out calls
      × ((or_refused r shelf).shelf ≡ after_all calls shelf)
  whole (Ok b) is so = (calls_of ask at shelf, inl (b, is, refl, refl), so)
  whole (Err refusal) is so = ([], inr (inl (refusal, is, refl, refl)), refl)

  -- an end without a reply, over the files
  unfinished : (r : Result BegunData Refusal) → begun_ask ask at shelf ≡ r → Leads (calls_of ask at shelf) shelf r
      → (plan : PlanData) (cursor : Option Cursor) (out : OutData) → (or_refused r shelf).work ≡ evaluates plan cursor → EndsListing may_go None out
      → (calls : List CallNow) × Accepts may_go ask at shelf follows out calls
      × (without_cursor cursor (or_refused r shelf).shelf ≡ after_all calls shelf)
  unfinished (Ok b) is so plan cursor out work ends = (
    calls_of ask at shelf ++ unset_calls cursor,
    inr (inr (inr (b, plan, cursor, is, work, ends, refl))),
    ap (without_cursor cursor) so ∙ sym (one_more (calls_of ask at shelf) cursor shelf),
  )
  unfinished (Err refusal) is so plan cursor out work ends = absurd (cc work)

-- the law
pub answers_are_calls : AnswersAreCalls
answers_are_calls may_go ask at shelf follows out after left (inl is) =
    let it = whole may_go ask at shelf follows (begun_ask ask at shelf) refl (leads ask at shelf) in
    subst (λ (a : AnswerData). (calls : List CallNow) × Accepts may_go ask at shelf follows (a.done).out calls × (a.shelf ≡ after_all calls shelf)) is it
answers_are_calls may_go ask at shelf follows out after left (inr (inl (takes, short, same, stay))) =
    ([], inr (inr (inl (takes, short, refl))), same)
answers_are_calls may_go ask at shelf follows out after left (inr (inr (plan, cursor, work, ends, same, stay))) =
    let it = unfinished may_go ask at shelf follows (begun_ask ask at shelf) refl (leads ask at shelf) plan cursor out work ends in
    (it.0, it.1, same ∙ it.2)
