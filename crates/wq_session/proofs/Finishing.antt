-- If files are to be listed, there is a view to list them at.
use Rattle.std.proofs.Common.{◌≡◌, ℕ, Bool, true, false, not, is_some, if◌then◌else◌, List, Option, Some, None, Result, Ok, Err, inl, inr, refl, sym, ap, subst}
use Rattle.serde_json.specs.Data.{Data}
use Rattle.serde_json.specs.View.{view as data_of}
use Rattle.wq_base.specs.Fault.{or_fault, or_its_fault, or_own_fault, unless_fault}
use Rattle.wq_code.specs.declared.raw.Raw.{Raw}
use Rattle.wq_query.specs.Query.{QueryData}
use Rattle.wq_follow.specs.Definition.{DefinitionData}
use Rattle.wq_follow.specs.Subscription.{subscribed}
use Rattle.wq_query.specs.Reading.{asks as queries}
use Rattle.wq_query.specs.Subscribed.{subscribes as subscription_of}
use Rattle.wq_query.specs.declared.fault.QueryFault.{QueryFault}
use Rattle.wq_registry.specs.Limit.{max_programs}
use Rattle.wq_registry.specs.ByName.{has_no_place}
use Rattle.wq_registry.specs.Shelf.{root_has_no_place}
use Rattle.wq_view.specs.View.{ViewData}
use Rattle.wq_session.specs.Out.{OutData}
use Rattle.wq_ask.specs.Program.{is_name}
use Rattle.wq_ask.specs.declared.ask.Ask.{Ask}
use Rattle.wq_ask.specs.declared.ask.Ask.TheVariants.{Alone, OfRoot, OfShelf, Unwatch, Watch}
use Rattle.wq_ask.specs.declared.ask.LoneAsk.{LoneAsk}
use Rattle.wq_ask.specs.declared.ask.LoneAsk.TheVariants.{Leave, Nothing, Refused, ShutDown, Version}
use Rattle.wq_ask.specs.declared.ask.RootAsk.{RootAsk}
use Rattle.wq_ask.specs.declared.ask.RootAsk.TheVariants.{AddTrigger, DeleteTrigger, Query as AsksQuery, Reads as ReadsRoot, Subscribe, Unsubscribe}
use Rattle.wq_ask.specs.declared.ask.ShelfAsk.{ShelfAsk}
use Rattle.wq_ask.specs.declared.ask.ShelfAsk.TheVariants.{AddProgram, DeleteProgram, Reads as ReadsShelf}
use Rattle.wq_ask.specs.declared.refusal.Refusal.{Refusal}
use Rattle.wq_ask.specs.declared.refusal.Refusal.TheVariants.{NotWatched, Query as BadQuery, ShelfFull, TooManyRoots, BadName, TooManyTriggers}
use Rattle.wq_session.specs.Answer.{CanFinish, TakesAsk}
use Rattle.wq_crawl.specs.At.{AtData}
use Rattle.wq_session.specs.At.{ShelfNow, is_watched}
use Rattle.wq_session.specs.Begun.{begun_ask, begun_alone, begun_on_shelf, begun_there, or_refused, reply_at, reply_on}
use Rattle.wq_session.specs.Trigger.{begun_read_trigger, defined_by, defined_name, has_no_trigger_place, put_trigger}
use Rattle.wq_session.specs.Subscribe.{begun_read_subscribe, first_plan}
use Rattle.wq_session.specs.Query.{begun_read_query, has_place, moved_cursor, plan_at, program_for, used_at}
use Rattle.wq_session.specs.Work.{BegunData, WorkData, begins, drops, evaluates, replying, says}

-- begun work can be finished at the root that is looked at
abbrev Fits : Option AtData → Result BegunData Refusal → Type 0
Fits at (Ok b) = CanFinish b.work at
Fits at (Err refusal) = Unit {0}

-- output alone can be finished
unless_said : (refusal : Refusal) (test : Bool) (out : OutData) (after : ShelfNow) (at : Option AtData)
    → Fits at (unless_fault refusal test (Ok (record { work = says out; shelf = after })))
unless_said refusal false out after at = tt
unless_said refusal true out after at = tt

-- an ask that reads can be finished
reads : (reply : Result Data Refusal) (at : Option AtData) (shelf : ShelfNow) → Fits at (replying reply shelf)
reads (Err refusal) at shelf = tt
reads (Ok d) at shelf = tt

module _ (at : AtData) (shelf : ShelfNow) where
  -- the consequences if the root is watched
  where_watched : (test : Bool) (next : AtData → Result BegunData Refusal) → Fits (Some at) (next at)
      → Fits (Some at) (or_fault NotWatched (if test then Some at else None) next)
  where_watched false next so = tt
  where_watched true next so = so

  with_place : (root tick : ℕ) (q : QueryData) (program : Option Raw) (test : Bool) → is_some at.view ≡ true
      → Fits (Some at) (unless_fault ShelfFull test (Ok (record {
        work = evaluates (plan_at root q program shelf) (moved_cursor root q.since);
        shelf = used_at root q.since tick shelf;
      })))
  with_place root tick q program false shown = tt
  with_place root tick q program true shown = shown

  with_program : (root tick : ℕ) (q : QueryData) (program : Result (Option Raw) Refusal) → is_some at.view ≡ true
      → Fits (Some at) (or_own_fault program (λ program.
      unless_fault ShelfFull (has_place root q.since shelf) (
      Ok (record {
        work = evaluates (plan_at root q program shelf) (moved_cursor root q.since);
        shelf = used_at root q.since tick shelf;
      }))))
  with_program root tick q (Err refusal) shown = tt
  with_program root tick q (Ok program) shown = with_place root tick q program (has_place root q.since shelf) shown

  with_query : (root tick : ℕ) (q : Result QueryData QueryFault) → is_some at.view ≡ true
      → Fits (Some at) (or_its_fault BadQuery q (λ q. begun_read_query root tick q shelf))
  with_query root tick (Err fault) shown = tt
  with_query root tick (Ok q) shown = with_program root tick q (program_for q shelf) shown

  with_view : (d : Data) (view : Option ViewData) → at.view ≡ view
      → Fits (Some at) (or_fault NotWatched view (λ view.
      or_its_fault BadQuery (queries at.instance d) (λ q. begun_read_query (at.instance).root view.tick q shelf)))
  with_view d None is = tt
  with_view d (Some view) is = with_query (at.instance).root view.tick (queries at.instance d) (ap is_some is)

  -- the beginning of `subscribe` can be finished
  with_subscription : (root name : List ℕ) (d : Data) (view : Option ViewData) → at.view ≡ view
      → Fits (Some at) (or_fault NotWatched view (λ view. unless_fault BadName (is_name name) (
      or_its_fault BadQuery (subscription_of at.instance d) (λ q. begun_read_subscribe root name (at.instance).root q shelf))))
  with_subscription root name d None is = tt
  with_subscription root name d (Some view) is = by (is_name name) (subscription_of at.instance d)
    where
      found : (q : QueryData) (program : Result (Option Raw) Refusal) → Fits (Some at) (or_own_fault program (λ program.
          Ok (record { work = begins (subscribed name root (at.instance).root (first_plan q program)); shelf = shelf })))
      found q (Err refusal) = tt
      found q (Ok program) = ap is_some is

      by : (test : Bool) (q : Result QueryData QueryFault) → Fits (Some at) (unless_fault BadName test (
          or_its_fault BadQuery q (λ q. begun_read_subscribe root name (at.instance).root q shelf)))
      by false q = tt
      by true (Err fault) = tt
      by true (Ok q) = found q (program_for q shelf)

  -- the beginning of `trigger` can be finished
  with_definition : (root : List ℕ) (number : ℕ) (d : Result DefinitionData Refusal) (view : Option ViewData)
      → Fits (Some at) (or_fault NotWatched view (λ view.
      or_own_fault d (λ definition. begun_read_trigger root number definition shelf)))
  with_definition root number d None = tt
  with_definition root number (Err refusal) (Some view) = tt
  with_definition root number (Ok d) (Some view) = found (program_for d.query shelf)
    where
      found : (program : Result (Option Raw) Refusal)
          → Fits (Some at) (or_own_fault program (λ program. put_trigger root number d program shelf))
      found (Err refusal) = tt
      found (Ok program) = unless_said TooManyTriggers (not (has_no_trigger_place number (defined_name d) shelf)) _ _ (Some at)

  -- the beginning of `unsubscribe` can be finished
  with_name : (number : ℕ) (name : List ℕ) (test : Bool)
      → Fits (Some at) (unless_fault BadName test (Ok (record { work = drops number name; shelf = shelf })))
  with_name number name false = tt
  with_name number name true = tt

  -- an ask of the root that is looked at
  there_fits : (what : RootAsk) (root : List ℕ) → Fits (Some at) (begun_there what root at shelf)
  there_fits (ReadsRoot what) root = reads (reply_at what at shelf) (Some at) shelf
  there_fits (AsksQuery q) root = with_view (data_of q) at.view refl
  there_fits (Subscribe name q) root = with_subscription root name (data_of q) at.view refl
  there_fits (Unsubscribe name) root = with_name (at.instance).root name (is_name name)
  there_fits (AddTrigger t) root = with_definition root (at.instance).root (defined_by at.instance (data_of t)) at.view
  there_fits (DeleteTrigger name) root = unless_said BadName (is_name name) _ _ (Some at)

-- an ask of the shelf
on_fits : (what : ShelfAsk) (at : Option AtData) (shelf : ShelfNow) → Fits at (begun_on_shelf what shelf)
on_fits (ReadsShelf what) at shelf = reads (Ok (reply_on what shelf)) at shelf
on_fits (AddProgram name program) at shelf = unless_said ShelfFull (not (has_no_place max_programs name shelf.programs)) _ _ at
on_fits (DeleteProgram name) at shelf = tt

-- an ask whose answer is always the same
alone_fits : (what : LoneAsk) (at : Option AtData) (shelf : ShelfNow) → Fits at (begun_alone what shelf)
alone_fits (Refused refusal) at shelf = tt
alone_fits Version at shelf = tt
alone_fits ShutDown at shelf = tt
alone_fits Leave at shelf = tt
alone_fits Nothing at shelf = tt

-- the beginning of an ask can be finished
begun_fits : (ask : Ask) (at : Option AtData) (shelf : ShelfNow) → Fits at (begun_ask ask at shelf)
begun_fits (Watch root) None shelf = tt
begun_fits (Watch root) (Some at) shelf =
    unless_said TooManyRoots (not (root_has_no_place root (at.instance).root shelf)) _ _ (Some at)
begun_fits (Unwatch root) None shelf = tt
begun_fits (Unwatch root) (Some at) shelf = where_watched at shelf (is_watched root at shelf) _ tt
begun_fits (OfRoot root crawl what) None shelf = tt
begun_fits (OfRoot root crawl what) (Some at) shelf = where_watched at shelf (is_watched root at shelf) _ (there_fits at shelf what root)
begun_fits (OfShelf what) at shelf = on_fits what at shelf
begun_fits (Alone what) at shelf = alone_fits what at shelf

or_fits : (r : Result BegunData Refusal) (at : Option AtData) (shelf : ShelfNow) → Fits at r → CanFinish (or_refused r shelf).work at
or_fits (Ok b) at shelf fits = fits
or_fits (Err refusal) at shelf fits = tt

-- so can the work that was taken
pub can_finish : (ask : Ask) (at : Option AtData) (shelf : ShelfNow) (work : WorkData) (after : ShelfNow)
    → TakesAsk ask at shelf work after → CanFinish work at
can_finish ask at shelf work after (inl is) =
    subst (λ (b : BegunData). CanFinish b.work at) is (or_fits (begun_ask ask at shelf) at shelf (begun_fits ask at shelf))
can_finish ask at shelf work after (inr ran_out) = subst (λ w. CanFinish w at) (sym ran_out.1) tt
