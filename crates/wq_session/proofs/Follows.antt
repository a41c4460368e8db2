-- Work that prints a reply, or begins or ends a subscription, leaves the shelf.
use Rattle.std.proofs.Common.{◌≡◌, ℕ, Bool, true, false, not, if◌then◌else◌, List, Option, Some, None, Result, Ok, Err, refl}
use mathlib.Core.Bool.{false≢true}
use Rattle.serde_json.specs.Data.{Data}
use Rattle.serde_json.specs.View.{view as data_of}
use Rattle.wq_base.specs.Fault.{or_fault, or_its_fault, or_own_fault, unless_fault}
use Rattle.wq_clock.specs.Instance.{InstanceData}
use Rattle.wq_code.specs.declared.raw.Raw.{Raw}
use Rattle.wq_follow.specs.Definition.{DefinitionData}
use Rattle.wq_follow.specs.Subscription.{subscribed}
use Rattle.wq_query.specs.Query.{QueryData}
use Rattle.wq_query.specs.Reading.{asks as queries}
use Rattle.wq_query.specs.Subscribed.{subscribes as subscription_of}
use Rattle.wq_query.specs.declared.fault.QueryFault.{QueryFault}
use Rattle.wq_registry.specs.Limit.{max_programs}
use Rattle.wq_registry.specs.ByName.{has_no_place}
use Rattle.wq_registry.specs.Shelf.{root_has_no_place}
use Rattle.wq_view.specs.View.{ViewData}
use Rattle.wq_session.specs.Out.{OutData}
use Rattle.wq_ask.specs.Program.{is_name}
use Rattle.wq_ask.specs.declared.ask.Ask.{Ask}
use Rattle.wq_ask.specs.declared.ask.Ask.TheVariants.{Alone, OfRoot, OfShelf, Unwatch, Watch}
use Rattle.wq_ask.specs.declared.ask.LoneAsk.{LoneAsk}
use Rattle.wq_ask.specs.declared.ask.LoneAsk.TheVariants.{Leave, Nothing, Refused, ShutDown, Version}
use Rattle.wq_ask.specs.declared.ask.RootAsk.{RootAsk}
use Rattle.wq_ask.specs.declared.ask.RootAsk.TheVariants.{AddTrigger, DeleteTrigger, Query as AsksQuery, Reads as ReadsRoot, Subscribe, Unsubscribe}
use Rattle.wq_ask.specs.declared.ask.ShelfAsk.{ShelfAsk}
use Rattle.wq_ask.specs.declared.ask.ShelfAsk.TheVariants.{AddProgram, DeleteProgram, Reads as ReadsShelf}
use Rattle.wq_ask.specs.declared.refusal.Refusal.{Refusal}
use Rattle.wq_ask.specs.declared.refusal.Refusal.TheVariants.{NotWatched, Query as BadQuery, ShelfFull, TooManyRoots, BadName, TooManyTriggers}
use Rattle.wq_crawl.specs.At.{AtData}
use Rattle.wq_session.specs.At.{ShelfNow, is_watched}
use Rattle.wq_session.specs.Begun.{begun_ask, begun_alone, begun_on_shelf, begun_there, or_refused, reply_at, reply_on, taken_ask, takes_memory}
use Rattle.wq_session.specs.Trigger.{begun_read_trigger, defined_by, defined_name, has_no_trigger_place, put_trigger}
use Rattle.wq_session.specs.Query.{begun_read_query, has_place, moved_cursor, plan_at, program_for, used_at}
use Rattle.wq_session.specs.Subscribe.{begun_read_subscribe, first_plan}
use Rattle.wq_session.specs.Work.{BegunData, WorkData, begins, drops, evaluates, prints, replying, says}

-- whether work prints a reply, or begins or ends a subscription
abbrev pub is_followed : WorkData → Bool
is_followed (says out) = false
is_followed (prints d) = true
is_followed (evaluates plan cursor) = false
is_followed (begins s) = true
is_followed (drops number name) = true

-- if it does, memory may be taken for it, and the shelf stays
abbrev Stays : Ask → ShelfNow → Result BegunData Refusal → Type 0
Stays ask shelf (Ok b) = is_followed b.work ≡ true → (takes_memory ask ≡ true) × (b.shelf ≡ shelf)
Stays ask shelf (Err refusal) = Unit {0}

module _ (ask : Ask) (shelf : ShelfNow) where
  -- output alone does not
  said : (out : OutData) (after : ShelfNow) → Stays ask shelf (Ok (record { work = says out; shelf = after }))
  said out after = λ is. absurd (false≢true is)

  unless_said : (refusal : Refusal) (test : Bool) (out : OutData) (after : ShelfNow)
      → Stays ask shelf (unless_fault refusal test (Ok (record { work = says out; shelf = after })))
  unless_said refusal false out after = tt
  unless_said refusal true out after = said out after

  -- the consequences if the root is watched
  if_watched : (at : AtData) (test : Bool) (next : AtData → Result BegunData Refusal) → Stays ask shelf (next at)
      → Stays ask shelf (or_fault NotWatched (if test then Some at else None) next)
  if_watched at false next so = tt
  if_watched at true next so = so

  with_place : (root tick : ℕ) (q : QueryData) (program : Option Raw) (test : Bool)
      → Stays ask shelf (unless_fault ShelfFull test (Ok (record {
        work = evaluates (plan_at root q program shelf) (moved_cursor root q.since);
        shelf = used_at root q.since tick shelf;
      })))
  with_place root tick q program false = tt
  with_place root tick q program true = λ is. absurd (false≢true is)

  with_program : (root tick : ℕ) (q : QueryData) (program : Result (Option Raw) Refusal)
      → Stays ask shelf (or_own_fault program (λ program.
      unless_fault ShelfFull (has_place root q.since shelf) (
      Ok (record {
        work = evaluates (plan_at root q program shelf) (moved_cursor root q.since);
        shelf = used_at root q.since tick shelf;
      }))))
  with_program root tick q (Err refusal) = tt
  with_program root tick q (Ok program) = with_place root tick q program (has_place root q.since shelf)

  with_query : (root tick : ℕ) (q : Result QueryData QueryFault)
      → Stays ask shelf (or_its_fault BadQuery q (λ q. begun_read_query root tick q shelf))
  with_query root tick (Err fault) = tt
  with_query root tick (Ok q) = with_program root tick q (program_for q shelf)

  with_view : (instance : InstanceData) (d : Data) (view : Option ViewData)
      → Stays ask shelf (or_fault NotWatched view (λ view.
      or_its_fault BadQuery (queries instance d) (λ q. begun_read_query instance.root view.tick q shelf)))
  with_view instance d None = tt
  with_view instance d (Some view) = with_query instance.root view.tick (queries instance d)

  -- the beginning of `trigger`
  with_definition : (root : List ℕ) (number : ℕ) (d : Result DefinitionData Refusal) (view : Option ViewData)
      → Stays ask shelf (or_fault NotWatched view (λ view.
      or_own_fault d (λ definition. begun_read_trigger root number definition shelf)))
  with_definition root number d None = tt
  with_definition root number (Err refusal) (Some view) = tt
  with_definition root number (Ok d) (Some view) = put (program_for d.query shelf)
    where
      put : (program : Result (Option Raw) Refusal)
          → Stays ask shelf (or_own_fault program (λ program. put_trigger root number d program shelf))
      put (Err refusal) = tt
      put (Ok program) = unless_said TooManyTriggers (not (has_no_trigger_place number (defined_name d) shelf)) _ _

  module _ (takes : takes_memory ask ≡ true) where
    -- an ask that reads
    reads : (reply : Result Data Refusal) → Stays ask shelf (replying reply shelf)
    reads (Err refusal) = tt
    reads (Ok d) = λ is. (takes, refl)

    -- the beginning of `subscribe`
    found : (root name : List ℕ) (number : ℕ) (q : QueryData) (program : Result (Option Raw) Refusal)
        → Stays ask shelf (or_own_fault program (λ program.
        Ok (record { work = begins (subscribed name root number (first_plan q program)); shelf = shelf })))
    found root name number q (Err refusal) = tt
    found root name number q (Ok program) = λ is. (takes, refl)

    subscribed_as : (root name : List ℕ) (number : ℕ) (test : Bool) (q : Result QueryData QueryFault)
        → Stays ask shelf (unless_fault BadName test (
        or_its_fault BadQuery q (λ q. begun_read_subscribe root name number q shelf)))
    subscribed_as root name number false q = tt
    subscribed_as root name number true (Err fault) = tt
    subscribed_as root name number true (Ok q) = found root name number q (program_for q shelf)

    with_subscription : (root name : List ℕ) (instance : InstanceData) (d : Data) (view : Option ViewData)
        → Stays ask shelf (or_fault NotWatched view (λ view. unless_fault BadName (is_name name) (
        or_its_fault BadQuery (subscription_of instance d) (λ q. begun_read_subscribe root name instance.root q shelf))))
    with_subscription root name instance d None = tt
    with_subscription root name instance d (Some view) =
        subscribed_as root name instance.root (is_name name) (subscription_of instance d)

    -- the beginning of `unsubscribe`
    with_name : (number : ℕ) (name : List ℕ) (test : Bool)
        → Stays ask shelf (unless_fault BadName test (Ok (record { work = drops number name; shelf = shelf })))
    with_name number name false = tt
    with_name number name true = λ is. (takes, refl)

    -- an ask of the root that is looked at
    there : (what : RootAsk) (root : List ℕ) (at : AtData) → Stays ask shelf (begun_there what root at shelf)
    there (ReadsRoot what) root at = reads (reply_at what at shelf)
    there (AsksQuery q) root at = with_view at.instance (data_of q) at.view
    there (Subscribe name q) root at = with_subscription root name at.instance (data_of q) at.view
    there (Unsubscribe name) root at = with_name (at.instance).root name (is_name name)
    there (AddTrigger t) root at = with_definition root (at.instance).root (defined_by at.instance (data_of t)) at.view
    there (DeleteTrigger name) root at = unless_said BadName (is_name name) _ _

    -- an ask of the shelf
    on_shelf : (what : ShelfAsk) → Stays ask shelf (begun_on_shelf what shelf)
    on_shelf (ReadsShelf what) = reads (Ok (reply_on what shelf))
    on_shelf (AddProgram name program) = unless_said ShelfFull (not (has_no_place max_programs name shelf.programs)) _ _
    on_shelf (DeleteProgram name) = λ is. absurd (false≢true is)

  -- an ask whose answer is always the same
  alone : (what : LoneAsk) → Stays ask shelf (begun_alone what shelf)
  alone (Refused refusal) = tt
  alone Version = λ is. absurd (false≢true is)
  alone ShutDown = λ is. absurd (false≢true is)
  alone Leave = λ is. absurd (false≢true is)
  alone Nothing = λ is. absurd (false≢true is)

-- the beginning of an ask
stays : (ask : Ask) (at : Option AtData) (shelf : ShelfNow) → Stays ask shelf (begun_ask ask at shelf)
stays (Watch root) None shelf = tt
stays (Watch root) (Some at) shelf =
    unless_said (Watch root) shelf TooManyRoots (not (root_has_no_place root (at.instance).root shelf)) _ _
stays (Unwatch root) None shelf = tt
stays (Unwatch root) (Some at) shelf =
    if_watched (Unwatch root) shelf at (is_watched root at shelf) _ (λ is. absurd (false≢true is))
stays (OfRoot root crawl what) None shelf = tt
stays (OfRoot root crawl what) (Some at) shelf =
    if_watched (OfRoot root crawl what) shelf at (is_watched root at shelf) _ (there (OfRoot root crawl what) shelf refl what root at)
stays (OfShelf what) at shelf = on_shelf (OfShelf what) shelf refl what
stays (Alone what) at shelf = alone (Alone what) shelf what

-- so if such work was begun
pub followed_stays : (ask : Ask) (at : Option AtData) (shelf : ShelfNow) → is_followed (taken_ask ask at shelf).work ≡ true
    → (takes_memory ask ≡ true) × ((taken_ask ask at shelf).shelf ≡ shelf)
followed_stays ask at shelf is = by (begun_ask ask at shelf) (stays ask at shelf) is
  where
    by : (r : Result BegunData Refusal) → Stays ask shelf r → is_followed (or_refused r shelf).work ≡ true
        → (takes_memory ask ≡ true) × ((or_refused r shelf).shelf ≡ shelf)
    by (Ok b) so is = so is
    by (Err refusal) so is = absurd (false≢true is)
